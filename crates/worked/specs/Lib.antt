-- Runs that are worked out by hand, one for each thing that a reader may want to see happen.
pub mod Worked
