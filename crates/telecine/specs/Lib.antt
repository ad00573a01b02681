-- The definitions that the contracts of `telecine` cite, histories of calls, and the claims about them.
pub mod Detector
pub mod History
pub mod Claims
