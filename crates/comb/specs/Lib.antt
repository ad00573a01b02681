-- The definitions that the contracts of `comb` cite.
pub mod Comb
pub mod Answer
pub mod Rows
pub mod Tally
pub mod Claims
