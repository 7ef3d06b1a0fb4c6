-- Numbers in decimal, as the programs read them.
pub mod Decimal
