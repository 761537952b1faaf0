-- Soundness as a list of claims.
pub mod Claims
