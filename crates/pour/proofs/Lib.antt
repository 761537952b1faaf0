-- What the proofs of pour share: blocks reached and poured, and what is counted before.
pub mod Laws
pub mod CountLaws
