pub mod Puts
pub mod Runs
pub mod RecordTexts
pub mod AnswerFields
pub mod RowCounts
