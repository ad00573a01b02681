-- The definitions that the exported function's contract cites, and the claim.
pub mod Pictures
pub mod Inner
pub mod Claims
