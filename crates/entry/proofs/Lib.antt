-- Laws that the proofs of this crate share, and the claims.
pub mod Entries
pub mod Judged
pub mod Claims
