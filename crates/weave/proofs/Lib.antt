-- Laws that several proofs cite, and the claims.
pub mod Fields
pub mod Judged
pub mod Claims
