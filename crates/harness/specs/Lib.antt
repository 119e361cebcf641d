-- The exported functions' values.
pub mod Values
