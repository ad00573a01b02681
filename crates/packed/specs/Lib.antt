-- The definitions that the contracts of `packed` cite, and the claims.
pub mod Packed
pub mod Claims
