pub mod Ring
pub mod Divides
pub mod Congruence
pub mod Bezout
pub mod Primes
pub mod CommonDivisors
pub mod Residues
