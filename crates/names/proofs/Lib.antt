-- The laws of names: of tests and runs of bytes, of the cursor over a path, and of slots and names that are lent as parts.
pub mod Laws
pub mod CursorLaws
pub mod PartLaws
