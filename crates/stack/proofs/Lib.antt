-- The theorems across the layers, and what a run of the board leaves.
pub mod Joining
mod Lighting
