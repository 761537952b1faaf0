-- The definitions of ink: what is on a page after some text was emitted.
pub mod Ink
