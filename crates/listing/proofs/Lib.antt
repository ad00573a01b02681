-- Laws that the proofs of this crate share, and the claims.
pub mod Texts
pub mod Decimal
pub mod Served
pub mod Claims
