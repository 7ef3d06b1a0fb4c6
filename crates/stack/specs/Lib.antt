-- The promise across the layers.
pub mod Stack
pub mod Lamps
pub mod Run
