-- Definitions that the contracts cite.
pub mod Placed
pub mod Contents
pub mod Making
