-- What is proved of the definition. Statements only; their proofs are in proofs/.
pub mod Demand
pub mod Bounds
pub mod LoopsEnd
pub mod Walks
pub mod CornerLoops
pub mod SecondSearch
pub mod Sizes
pub mod Rings
pub mod Outline
pub mod Search
pub mod Detour
