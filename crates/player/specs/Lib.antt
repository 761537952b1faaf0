-- The definitions of player: a script played.
pub mod Played
