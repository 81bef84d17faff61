pub mod RefusalLaws
pub mod ReadingLaws
