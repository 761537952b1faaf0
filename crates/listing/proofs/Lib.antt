-- The laws of listing: a path with one more name, and the walk of a directory.
pub mod PathLaws
pub mod WalkLaws
