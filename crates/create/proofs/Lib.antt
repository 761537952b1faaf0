-- The laws that the proofs of this crate share.
pub mod HousedLaws
pub mod EnteredLaws
pub mod CallLaws
