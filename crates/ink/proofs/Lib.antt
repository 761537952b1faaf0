-- The laws of ink: a page after a text, and the texts piece by piece.
pub mod InkLaws
pub mod TextLaws
