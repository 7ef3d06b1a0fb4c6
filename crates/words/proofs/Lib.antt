-- Laws that several layers use.
pub mod Bits
pub mod Lists
pub mod Low
pub mod Memory
pub mod Runs
pub mod Slots
pub mod Tests
