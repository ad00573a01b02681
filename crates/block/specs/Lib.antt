-- The definitions that the contracts of `block` cite.
pub mod Block
pub mod Answer
pub mod Rows
pub mod Counters
pub mod Claims
