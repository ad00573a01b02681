-- What the contracts of `cadence` cite, and what is claimed of what it tells.
pub mod Told
pub mod Turns
pub mod Claims
