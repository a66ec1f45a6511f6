-- Lemmas on the making of a table board.
pub mod Read
pub mod Fits
pub mod Laying
pub mod Exclusive
pub mod Obeyed
