-- The clip program's lines over bytes, in the order to read: decimal numbers, what a line asks and what is printed; then what the functions promise of them.
pub mod Decimal
pub mod Reading
pub mod Printing
pub mod Asked
pub mod Written
pub mod Scanning
pub mod Putting
pub mod Lines
pub mod Examples
pub mod Same
