-- The tables of worked cases and traps, computed from the definitions, and the theorems used on the volume of case 2.
pub mod Computing
pub mod Cases
pub mod Traps
pub mod Example
