-- The laws of set info: what it answers and stores, by what the path opened.
pub mod InfoLaws
