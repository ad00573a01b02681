-- The definitions that the contracts of `entry` cite, and the claims.
pub mod Entry
pub mod Inner
pub mod Claims
