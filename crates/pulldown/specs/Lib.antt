-- The definitions that the contracts of `pulldown` cite, and the claims about them.
pub mod Symbols
pub mod Table
pub mod Runs
pub mod Lock
pub mod Codes
pub mod Inner
pub mod Claims
