-- The parts' laws: of levels that obey the gates, then of the board's own settling.
pub mod Settling
pub mod Words
pub mod Adding
pub mod Reading
pub mod Writing
pub mod Sound
pub mod Laws
pub mod Ticking
