-- The definitions that the contracts of `listing` cite, the program's steps, the example of docs/RULES.md, and the claims.
pub mod Listing
pub mod Lines
pub mod Steps
pub mod Example
pub mod Claims
