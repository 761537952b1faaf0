-- The laws of rename: what an opened entry is, and what the call answers and stores.
pub mod EntryLaws
pub mod RenameLaws
