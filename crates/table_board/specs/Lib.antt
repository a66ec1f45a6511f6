-- Definitions that the contracts cite.
pub mod Rows
pub mod Policies
pub mod Making
pub mod Building
