-- The definitions that the contracts of `answers` cite.
pub mod Record
pub mod Floats
