pub mod BitPolys
pub mod Division
pub mod Moduli
pub mod Words
pub mod ModuliLemmas
pub mod HighestBits
pub mod Degrees
