-- Lemmas on the language.
pub mod Fuel
pub mod Trees
pub mod Shapes
pub mod Unique
pub mod Measuring
