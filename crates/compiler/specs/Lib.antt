-- The compiler. What a reader has to believe: Promise and Locates. The others are what the parts of the compiler promise one another.
pub mod Promise
pub mod Writing
pub mod Frames
pub mod Sizes
pub mod Work
pub mod Statements
pub mod Procs
pub mod Places
pub mod Pairs
pub mod Locates
