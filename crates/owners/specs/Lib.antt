-- Definitions that the contracts cite.
pub mod Orders
pub mod Bands
