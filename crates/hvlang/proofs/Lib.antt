-- Lemmas on hvlang.
mod Lending
