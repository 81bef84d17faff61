pub mod LineEnds
pub mod NoteTexts
pub mod ReasonTexts
pub mod Reasons
pub mod SeenKeys
pub mod SeenRecords
pub mod ShownTexts
