-- What the contracts of info cite: what is told of an entry.
pub mod Told
