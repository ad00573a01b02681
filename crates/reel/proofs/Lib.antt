-- Laws that the proofs of this crate share, and the claims.
pub mod Pushes
pub mod Cut
pub mod Turns
pub mod Counted
pub mod Fine
pub mod Known
pub mod Lines
pub mod Claims
