-- What the contracts of `float` say, and the bounds that later crates cite.
pub mod Float
pub mod Bounds
pub mod Claims
