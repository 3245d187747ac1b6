pub mod Divisibility
pub mod Euclidean
pub mod Field
pub mod Residues
pub mod Weight
