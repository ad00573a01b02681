-- The laws that later crates cite, and the claims.
pub mod Full
pub mod Coordinates
pub mod Bounds
pub mod Places
pub mod Claims
pub mod Codes
