-- The definitions of checks: what callers have seen before, the slots ahead of a place, and the addresses of active slots.
pub mod Inside
