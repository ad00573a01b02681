-- The proof of the cards.
pub mod Cards
