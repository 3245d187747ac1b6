pub mod PolynomialDomain
pub mod Primes
pub mod PrimeField
pub mod PerfectField
