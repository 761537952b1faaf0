-- What the entry writer does in steps.
pub mod Fields
