-- Laws that the functions' proofs cite.
pub mod Stores
pub mod DecimalText
pub mod Puts
pub mod Widths
pub mod FieldDigits
pub mod FieldList
pub mod Lines
