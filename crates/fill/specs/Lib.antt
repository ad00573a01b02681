-- The definitions that the contracts of `fill` cite.
pub mod Fill
pub mod Rows
pub mod Lines
pub mod Claims
