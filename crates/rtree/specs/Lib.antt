pub mod Found
pub mod Joins
pub mod ListIndexes
pub mod PackedTrees
pub mod Packing
pub mod Trees
