-- The laws of read: what it answers by what the path opened, and the rows from $4B on.
pub mod ReadLaws
pub mod CodeLaws
