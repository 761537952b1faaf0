-- What callers need of an entry that a path leads to.
pub mod HeldLaws
