-- The definitions of lines: what a line of a script says, and what its command leaves.
pub mod Commands
pub mod Left
