-- Lemmas on the played cases.
pub mod Ends
pub mod Bounds
pub mod Witness
pub mod Rows
