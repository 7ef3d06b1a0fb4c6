-- The drawing of the instruction machine.
pub mod Signals
pub mod Control
pub mod Stages
pub mod Cpu
pub mod Ink
pub mod Bits
pub mod Lines
pub mod Promise
pub mod Stored
pub mod Shown
