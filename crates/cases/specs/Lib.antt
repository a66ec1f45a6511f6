-- Definitions that the contracts cite.
pub mod Verdicts
pub mod Played
