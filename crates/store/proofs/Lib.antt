-- What the proofs of this crate share, and those of crates above that lend parts of a slice.
pub mod Runs
