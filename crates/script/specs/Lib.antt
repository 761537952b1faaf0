-- The definitions of script: the word and the fields of a line.
pub mod Fields
