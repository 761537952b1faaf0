-- The laws of format: sizes, map bytes, and its outcome.
pub mod Laws
