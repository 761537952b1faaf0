-- The definitions of replies: the lines that a script's commands print.
pub mod Lines
