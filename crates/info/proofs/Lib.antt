-- The laws of get info and space: what they tell, by what the path opened.
pub mod TellLaws
