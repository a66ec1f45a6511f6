-- Definitions that the contracts cite.
pub mod Fields
pub mod Lines
pub mod Contents
pub mod Readings
pub mod Walks
pub mod Stores
pub mod Reports
pub mod Whole
