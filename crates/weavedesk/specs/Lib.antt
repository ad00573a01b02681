-- The definitions that the exported functions' contracts cite, what a host does with several calls, and the claims.
pub mod Woven
pub mod Readback
pub mod Waiting
pub mod Push
pub mod Inner
pub mod History
pub mod Claims
