-- The laws that the proofs of shrink cite.
pub mod Laws
