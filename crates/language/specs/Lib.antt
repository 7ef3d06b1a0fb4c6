-- The course language, the limits of a program, a program held as nodes, and the heights of what stands at a node.
pub mod Language
pub mod Limits
pub mod Nodes
pub mod Heights
pub mod Held
