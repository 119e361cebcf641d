-- Laws that the function's proof cites.
pub mod Calls
pub mod Exact
pub mod Bounded
pub mod HandsOver
