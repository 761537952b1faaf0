-- What the contracts of write cite.
pub mod Writing
