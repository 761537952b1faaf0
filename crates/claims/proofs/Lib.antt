-- The laws of claims: for code that claims step by step, and that the claims hold exactly on a sound volume.
pub mod TestLaws
pub mod SumLaws
pub mod ClaimLaws
pub mod SoundFacts
pub mod Agreement
