-- Lemmas on the machine.
pub mod Steps
mod Running
