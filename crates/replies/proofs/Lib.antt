-- The laws of replies: a line's parts, one after the other.
pub mod LineLaws
