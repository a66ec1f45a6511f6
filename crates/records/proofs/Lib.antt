-- Lemmas on the rules of records.
pub mod Kept
pub mod Numbers
pub mod Told
pub mod Breaks
pub mod Makings
