-- What the programs' arguments ask for.
pub mod Request
