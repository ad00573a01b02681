-- The laws that later crates cite, and the claims.
pub mod Ranges
pub mod Divisor
pub mod InUnit
pub mod Claims
