-- Laws that the proofs of this crate share, and the claims.
pub mod Kept
pub mod Calls
pub mod Sized
pub mod States
pub mod Holds
pub mod Frames
pub mod Demand
pub mod Door
pub mod Claims
