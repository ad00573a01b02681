-- The definitions that the contracts of `readback` cite, and the claims.
pub mod Readback
pub mod Inner
pub mod Claims
