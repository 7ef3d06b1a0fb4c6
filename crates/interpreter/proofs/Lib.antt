-- Lemmas on the interpreter.
pub mod Outcomes
pub mod Working
pub mod Doing
pub mod Looping
pub mod Calling
pub mod Preparing
pub mod Interpreting
