-- The laws that the proofs of looks cite.
pub mod UntilLaws
pub mod IntoLaws
pub mod LookLaws
