-- What the contracts of create cite.
pub mod Housed
pub mod Entered
