-- Definitions that the contracts cite.
pub mod Symbols
pub mod Histories
pub mod Automata
pub mod Laws
