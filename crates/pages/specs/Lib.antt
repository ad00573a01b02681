-- The definitions that the contracts of `pages` cite, a program's run against the chunks that reads deliver, and the claims.
pub mod Pages
pub mod Run
pub mod Claims
