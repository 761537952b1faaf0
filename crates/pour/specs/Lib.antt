-- What the contracts of pour cite.
pub mod Pouring
