-- The bench cards that are proved.
pub mod Cards
