-- The definitions that the contracts of `weave` cite, and the claims.
pub mod Weave
pub mod Claims
