-- Ways and the names along them.
pub mod Ways
