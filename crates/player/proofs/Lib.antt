-- The laws of player's definitions.
pub mod PlayedLaws
