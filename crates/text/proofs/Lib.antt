-- Lemmas. Words and their kinds first, then what is read, then the nodes.
pub mod Cuts
pub mod Decimals
pub mod Digits
pub mod Spellings
pub mod Decode
pub mod Steps
pub mod Written
pub mod Sound
pub mod Judging
pub mod Fillings
pub mod Linking
pub mod Rows
pub mod Trees
pub mod Tables
pub mod Loading
pub mod Noting
