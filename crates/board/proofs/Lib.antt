-- Lemmas of this crate.
pub mod Bytes
pub mod Filling
pub mod Wiring
pub mod Settling
pub mod PinWords
pub mod Cuts
pub mod Ticking
pub mod Along
pub mod Spinning
pub mod Pieces
