-- Definitions that the contracts cite.
pub mod Measures
pub mod Efforts
pub mod Scales
pub mod Costs
