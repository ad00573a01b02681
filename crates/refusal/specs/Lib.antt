-- The definitions that contracts about refusals cite.
pub mod Refusal
pub mod Claims
