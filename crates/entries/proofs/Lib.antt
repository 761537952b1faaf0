-- The laws of slots that are written: fields, a slot lent and given back, a name that is lent as a part of its path, and outcomes.
pub mod Laws
pub mod LastLaws
pub mod DoesLaws
