-- What the contracts of rename cite.
pub mod Renamed
