-- What leads to an entry, and what calls leave of it.
pub mod TextLaws
pub mod PathLaws
pub mod WayLaws
pub mod CarryLaws
pub mod RelabelLaws
pub mod GoneLaws
pub mod NewLaws
pub mod CallLaws
pub mod KeptLaws
pub mod ExampleLaws
pub mod FullLaws
