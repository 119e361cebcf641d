-- Words of the firmware's private functions.
pub mod Words
pub mod Sending
pub mod ReadBack
