-- Lemmas on efforts.
pub mod Joins
