pub mod Commands
pub mod FirstRun
