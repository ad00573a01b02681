-- The definitions that the exported functions' contracts cite, and the claims.
pub mod Kept
pub mod Inner
pub mod Film
pub mod Left
pub mod History
pub mod Claims
