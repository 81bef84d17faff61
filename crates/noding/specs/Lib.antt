pub mod Meetings
pub mod Nodings
pub mod NodeRanges
pub mod Sweeps
pub mod Steps
pub mod Merging
