-- Laws that several proofs cite, and the claims.
pub mod Rows
pub mod Columns
pub mod Codes
pub mod Claims
