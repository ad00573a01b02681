-- What holds of the definitions here.
pub mod Claims
