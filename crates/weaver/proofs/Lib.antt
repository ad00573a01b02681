-- Laws that several proofs cite, and the claims.
pub mod Packed
pub mod Judged
pub mod Kept
pub mod Reached
pub mod Claims
