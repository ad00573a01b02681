-- The definitions that the contracts of `weaver` cite, histories of calls, and the claims about them.
pub mod Weaver
pub mod Inner
pub mod History
pub mod Claims
