-- What the contracts of the calls on data files cite.
pub mod Held
