-- The definitions of sound: the claims of an entry by values, and what its own claims lead to.
pub mod Work
