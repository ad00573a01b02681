-- Laws that several proofs cite, and the claims.
pub mod Narrowed
pub mod Lines
pub mod Readback
pub mod Times
pub mod Kept
pub mod Push
pub mod States
pub mod Carried
pub mod Demand
pub mod Door
pub mod Claims
