-- The definition of both clippers, in the order to read, after plane's.
pub mod Counts
pub mod Walk
pub mod Lines
pub mod Arena
pub mod Tidy
pub mod Clip
pub mod Entry
pub mod Exported
pub mod Drawings
pub mod Refusals
