-- Drawings with the answers of the unchanged Rust, as tables that hold by computation: compare/kept.txt, and random ones.
pub mod Cases
pub mod Kept1
pub mod Kept2
pub mod Random1
pub mod Random2
pub mod Random3
pub mod Random4
pub mod Random5
pub mod Random6
pub mod Random7
pub mod Random8
pub mod Random9
