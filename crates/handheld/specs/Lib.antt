-- The handheld's calls.
pub mod Called
pub mod Drawn
