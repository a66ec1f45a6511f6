-- Lemmas on texts.
pub mod Numbers
pub mod Runs
pub mod Fields
pub mod Lines
pub mod Broken
pub mod Walks
pub mod Turns
pub mod Apart
pub mod Outcomes
pub mod Places
pub mod OneWay
pub mod Whole
pub mod Accepts
pub mod Enough
pub mod Refuses
