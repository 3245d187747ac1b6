pub mod Sequence
pub mod Polynomial
pub mod Perfect
pub mod Remainder
pub mod Words
