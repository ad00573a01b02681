-- The laws of a copy, for its proofs and those of its callers.
pub mod Copied
