-- The laws that the proofs of every crate may cite, and the shapes of document 01 at examples.
pub mod TestLaws
pub mod ByteLaws
pub mod BitLaws
pub mod SumLaws
pub mod RefusalLaws
pub mod Shapes
pub mod Laws
