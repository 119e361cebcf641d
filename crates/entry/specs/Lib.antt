-- The answers of the entries by document 01's numbers and values, what a path's survey tells, and the filled part.
pub mod Answers
pub mod Survey
pub mod Part
