-- The definitions of names: what a step over a path finds, where its last name begins, and stored names in two images.
pub mod Steps
