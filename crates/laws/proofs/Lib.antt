-- The laws that later crates cite, and the claims.
pub mod Bools
pub mod Refusal
pub mod Sums
pub mod Digits
pub mod Lists
pub mod Rows
pub mod Below
pub mod Claims
