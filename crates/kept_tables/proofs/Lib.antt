pub mod KeptLemmas
pub mod NamedTables
pub mod LoadedTables
