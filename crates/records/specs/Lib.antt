-- Definitions that the contracts cite.
pub mod Faults
pub mod Rules
pub mod Written
pub mod Breaks
pub mod Makings
pub mod Kinds
