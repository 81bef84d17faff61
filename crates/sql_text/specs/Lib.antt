pub mod Comparands
pub mod Outcomes
pub mod Predicates
pub mod Queries
pub mod Steps
