-- Laws that several proofs cite, and the claims.
pub mod Rows
pub mod Counters
pub mod Passed
pub mod Claims
