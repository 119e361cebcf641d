-- What the clip program prints for its input.
pub mod Printed
