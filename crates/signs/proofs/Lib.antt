-- Lemmas.
pub mod Located
pub mod Worded
pub mod Righted
