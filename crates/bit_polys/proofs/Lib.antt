pub mod Steps
pub mod LongDivision
pub mod Products
pub mod Derivatives
pub mod Decisions
