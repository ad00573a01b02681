-- The definitions that the contract of `picture` cites, what its inner functions promise, and the claims.
pub mod Picture
pub mod Inner
pub mod Jobs
pub mod Claims
