-- The one statement that a drawing of the machine has to satisfy.
pub mod Drawing
