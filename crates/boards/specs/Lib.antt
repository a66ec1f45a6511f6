-- Definitions that the contracts cite.
pub mod Meanings
pub mod Quotas
pub mod Layers
pub mod Tables
pub mod Sides
