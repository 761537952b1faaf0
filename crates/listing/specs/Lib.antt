-- The definitions of listing: the text of a directory's slots.
pub mod Walked
