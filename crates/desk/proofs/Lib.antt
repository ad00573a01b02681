pub mod Cut
pub mod Claims
