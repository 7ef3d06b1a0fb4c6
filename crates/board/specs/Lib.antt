-- What the calls promise, the laws of a run, what the functions below the calls say of the lent slices, and that its
-- facts on signals have one proof at most.
pub mod Board
pub mod Laws
pub mod Slices
pub mod Props
