-- The laws that later crates cite, and what the functions' proofs share.
pub mod Order
pub mod Chain
pub mod Rounded
pub mod Small
pub mod Range
pub mod Ends
pub mod Byte
pub mod Claims
