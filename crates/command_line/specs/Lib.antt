pub mod Misuses
pub mod Orders
pub mod CommandWords
