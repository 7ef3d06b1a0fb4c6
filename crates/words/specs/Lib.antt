-- 16-bit words, their bits, lists of them, and what it means that two runs do the same.
pub mod Words
pub mod Runs
pub mod Endings
