-- The text of a program. What a reader has to believe: Text (what a text is the writing of, and the limits), Verdicts and
-- Loads (what is promised of a text), Signs (which of its words begin a sign). The others are what the parts of the reader
-- promise one another.
pub mod Text
pub mod Verdicts
pub mod Loads
pub mod Cut
pub mod Numbers
pub mod Kinds
pub mod Shapes
pub mod Reading
pub mod Bare
pub mod Filling
pub mod Links
pub mod Table
pub mod Signs
