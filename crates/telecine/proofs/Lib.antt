-- Laws that the proofs of this crate share, and that later crates can cite.
pub mod Calls
pub mod Stored
pub mod Reached
pub mod Claims
