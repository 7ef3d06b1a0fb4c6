-- The answers of `spin` for C.
pub mod Coded
