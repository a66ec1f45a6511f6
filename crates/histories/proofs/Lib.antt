-- Lemmas on histories.
pub mod Counts
pub mod Places
pub mod Beginnings
pub mod Balance
pub mod Framings
