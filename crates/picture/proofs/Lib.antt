-- The laws that the proofs of the functions cite, and the claims.
pub mod Judged
pub mod Painted
pub mod Picked
pub mod Tiles
pub mod Claims
