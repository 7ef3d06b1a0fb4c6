-- The one statement that the image of a program has to satisfy.
pub mod Image
