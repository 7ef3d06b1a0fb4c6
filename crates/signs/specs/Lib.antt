-- The signs of a program, in the order of its text.
pub mod Places
pub mod Signs
