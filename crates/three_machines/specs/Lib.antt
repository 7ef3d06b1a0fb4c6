-- When the machines agree.
pub mod Agreement
