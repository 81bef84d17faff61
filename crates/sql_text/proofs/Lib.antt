pub mod Counts
pub mod Lexing
pub mod TokenSlices
pub mod Ascii
pub mod Passing
pub mod PredicateNames
pub mod QueryParts
pub mod SchemaLemmas
