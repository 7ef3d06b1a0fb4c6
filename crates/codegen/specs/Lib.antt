-- The code of a program, and what is promised of it.
pub mod Layout
pub mod Instructions
pub mod Codegen
pub mod Top
pub mod Heart
pub mod Promise
pub mod Example
