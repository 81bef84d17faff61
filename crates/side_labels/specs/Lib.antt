pub mod Noding
pub mod Samples
