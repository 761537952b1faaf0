-- What a path leads to after a call, what stands there, and how many blocks are free.
pub mod Spelled
pub mod Ways
pub mod Carried
pub mod Below
pub mod Formatted
pub mod Counting
pub mod Destroyed
pub mod Resized
pub mod Renamed
pub mod VolumeRenamed
pub mod Created
pub mod Examples
pub mod FullExample
