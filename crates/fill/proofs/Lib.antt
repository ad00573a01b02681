-- The laws that the proofs of the functions cite, and the claims.
pub mod Columns
pub mod Slants
pub mod Expanded
pub mod Places
pub mod Chosen
pub mod Tiles
pub mod Judged
pub mod Claims
