-- What the contracts of opening cite.
pub mod Opened
pub mod Sorts
