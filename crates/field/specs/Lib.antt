-- The definitions that the contracts of `field` cite.
pub mod Field
