-- Laws that the functions' proofs cite.
pub mod PathBounds
pub mod Sheets
pub mod Admitting
pub mod Parts
