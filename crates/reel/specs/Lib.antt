-- The definitions that the contracts of `reel` cite, and the claims.
pub mod Reel
pub mod Machine
pub mod Inner
pub mod Frames
pub mod Claims
