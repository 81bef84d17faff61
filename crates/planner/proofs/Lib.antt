pub mod AccessLists
pub mod RowCounts
pub mod LeastStep
pub mod Counts
pub mod LeastMap
pub mod PlanOfLeast
pub mod Taken
