-- The laws of changes: what a command leaves that changes the image.
pub mod ChangeLaws
