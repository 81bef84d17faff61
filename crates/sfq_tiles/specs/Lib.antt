pub mod Checks
pub mod Endings
pub mod Lists
pub mod MadeTables
pub mod SchemaTexts
pub mod Splits
pub mod TileAnswers
pub mod Words
