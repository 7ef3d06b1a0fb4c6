-- The instruction machine: its definition, and how the code's values stand for it.
pub mod Machine
pub mod Processor
