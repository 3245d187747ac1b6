pub mod DomainLaws
pub mod PrimeField
pub mod Derivatives
pub mod Chain
