-- The laws of script: one step of each form of a field, then of a field of any form, and what the values of good fields are at most.
pub mod FieldLaws
pub mod FormLaws
pub mod FitLaws
