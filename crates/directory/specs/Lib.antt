-- The definitions of directory: what a slot says, what a search must be able to rely on, and its answers.
pub mod Slots
pub mod Search
pub mod Lookup
