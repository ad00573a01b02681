-- Laws that the proofs of this crate share, and that later crates can cite.
pub mod Symbols
pub mod FirstPhase
pub mod Walk
pub mod Phases
pub mod Few
pub mod Follow
pub mod Holds
pub mod Claims
pub mod Step
pub mod Codes
