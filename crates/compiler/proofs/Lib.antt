-- Lemmas.
pub mod Writings
pub mod Works
pub mod Parted
pub mod Emitted
pub mod Stmts
pub mod Laid
pub mod Procedures
pub mod Placed
pub mod Wrote
pub mod Whole
pub mod Builds
pub mod Noted
pub mod Lists
