pub mod Pieces
pub mod HandedFiles
pub mod Servings
