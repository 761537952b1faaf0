-- The definitions of twins: names as rows of bits, and a tree of names.
pub mod Twins
