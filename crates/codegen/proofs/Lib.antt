-- The proofs on the code of a program, in the order in which they are used; 'Splits' is for whoever writes the code out.
pub mod Stepping
pub mod Rows
pub mod Outcomes
pub mod Blocks
pub mod Holding
pub mod Behind
pub mod Exprs
pub mod Branches
pub mod Stmts
pub mod Frames
pub mod Procs
pub mod Limits
pub mod Whole
pub mod Sizes
pub mod Widths
pub mod Images
pub mod Splits
