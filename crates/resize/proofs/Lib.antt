-- The laws that the proofs of resize cite.
pub mod Laws
pub mod EndLaws
