-- Laws that the proofs of the functions cite.
pub mod Fits
pub mod Lines
pub mod Given
pub mod Exact
pub mod Feeds
pub mod HeldBytes
pub mod Taken
pub mod Visiting
