pub mod KeptTables
pub mod KeptLaws
