-- Lemmas on decimal numbers.
mod Digits
