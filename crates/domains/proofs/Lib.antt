pub mod Remainders
pub mod Calls
pub mod Divisions
pub mod Outcomes
pub mod Inversion
pub mod Splitting
pub mod Openings
pub mod Decisions
