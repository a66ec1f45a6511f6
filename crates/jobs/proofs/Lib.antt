-- Lemmas on the making of a table.
pub mod Fits
pub mod Exclusive
