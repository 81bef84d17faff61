pub mod Bounds
pub mod Rightward
pub mod Tests
