-- What the proofs of growth share.
pub mod Laws
