pub mod Faults
pub mod Fields
pub mod Lines
pub mod Marks
pub mod Names
pub mod Notes
pub mod Tables
