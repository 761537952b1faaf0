-- What the contracts of destroy cite.
pub mod Gone
