-- The definitions of changes: what the commands do that change the image.
pub mod Changes
