-- What a sound volume gives.
pub mod MetLaws
pub mod BlockLaws
pub mod LookupLaws
pub mod SlotLaws
