-- The laws that the proofs of opening cite, and that its callers need.
pub mod SaneLaws
pub mod VolumeLaws
pub mod OpenedLaws
pub mod EntryLaws
pub mod CodeLaws
pub mod IfLaws
pub mod PlaceLaws
pub mod PassLaws
