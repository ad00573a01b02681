-- The definitions that several crates cite.
pub mod Refusal
pub mod Sums
pub mod Rows
pub mod Lent
pub mod Claims
