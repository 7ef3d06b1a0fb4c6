-- The circuit, the board that it stands on, the sheet that holds a circuit as numbers, and the parts of a circuit.
pub mod Circuit
pub mod Sheet
pub mod Parts
pub mod PartsAdder
pub mod PartsRegisters
pub mod PartsLaws
