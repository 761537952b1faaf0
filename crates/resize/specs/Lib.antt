-- What the contracts of resize cite.
pub mod Ends
