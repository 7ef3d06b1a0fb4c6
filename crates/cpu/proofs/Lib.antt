-- The drawing is the instruction machine.
pub mod Drawing
pub mod ControlLines
pub mod DataPath
pub mod Board
pub mod States
pub mod Phases
pub mod Operands
pub mod Execute
pub mod Simulation
pub mod IsMachine
pub mod Inking
pub mod Arrays
pub mod BitByBit
pub mod PortLoops
pub mod OnSheet
pub mod AfterStore
pub mod Shown
