-- Lemmas on runs of boards.
pub mod Runs
