-- The definitions that the contracts of `colour` cite.
pub mod Colour
pub mod Answer
pub mod Claims
