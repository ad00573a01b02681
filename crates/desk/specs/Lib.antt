-- The definitions that the exported functions' contracts cite.
pub mod Fields
pub mod Planes
pub mod Filters
pub mod Colours
pub mod Inner
pub mod Claims
