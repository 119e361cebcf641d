-- What the clip program takes for a line, what it prints for it and that this has demand 3, and words of the functions that write it.
pub mod Taken
pub mod Visited
pub mod Answered
pub mod Exact
pub mod Printed
pub mod Examples
