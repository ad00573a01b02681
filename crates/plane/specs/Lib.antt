-- The definitions that the contracts of `plane` cite, and those that later crates read pictures by.
pub mod Plane
pub mod Coordinates
pub mod Answer
pub mod Claims
