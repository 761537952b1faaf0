-- What the walk of a volume meets, and blocks that lie on it.
pub mod Reached
