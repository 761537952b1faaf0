-- The laws of lines.
pub mod LeftLaws
pub mod PartLaws
pub mod ReadLaws
pub mod WordLaws
