-- Laws that the firmware's proofs cite.
pub mod Bytes
pub mod Sending
pub mod ReadBack
pub mod Returned
pub mod Exporting
