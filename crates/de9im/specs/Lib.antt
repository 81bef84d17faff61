pub mod Cells
pub mod Deciding
pub mod Raising
