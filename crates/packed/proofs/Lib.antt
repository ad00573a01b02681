-- Laws that the proofs of this crate share, and the claims.
pub mod Parts
pub mod Claims
