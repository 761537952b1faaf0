-- The laws of twins.
pub mod NameLaws
pub mod NodeLaws
pub mod TreeLaws
