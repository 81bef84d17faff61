pub mod Scopes
pub mod Strings
pub mod Evaluation
pub mod Sides
pub mod FilterOrder
pub mod IdleRows
pub mod Readings
pub mod SoughtValues
