-- The interpreter: the routines of a program, and what a run over lent memory promises.
pub mod Routines
pub mod Running
pub mod Interpreter
