-- Lemmas on agreement.
pub mod Words
