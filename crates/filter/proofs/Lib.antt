-- The laws that later crates cite, what the functions' proofs share, and the claims.
pub mod Offsets
pub mod Slants
pub mod Motion
pub mod Samples
pub mod Places
pub mod Sizes
pub mod Claims
