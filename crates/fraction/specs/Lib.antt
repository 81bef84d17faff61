pub mod Ranges
pub mod Fractions
pub mod Orders
pub mod OrderLaws
pub mod Between
