-- The definitions that the contracts of `filter` cite, and the claims.
pub mod Filter
pub mod Rows
pub mod Making
pub mod Held
pub mod Answer
pub mod Claims
