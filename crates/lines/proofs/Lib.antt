-- Loops: a word's bytes and spaced numbers, one after the other. Lengths: the most bytes that a text has. Cells: a cell that is
-- no pointer, by its words.
pub mod Loops
pub mod Lengths
pub mod Cells
