-- What the contracts of read cite: reading by an entry.
pub mod Reading
