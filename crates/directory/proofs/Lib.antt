-- The laws of directories: what a lent slot says, searches slot by slot and block by block, lookups name by name, and what answers mean.
pub mod SlotLaws
pub mod SearchLaws
pub mod LookupLaws
pub mod AnswerLaws
pub mod KindLaws
