pub mod ConditionFacts
pub mod Outcomes
pub mod PatternTexts
pub mod Parts
pub mod FilterLemmas
mod FreeConditionLemmas
pub mod IdleRowLemmas
mod SoughtValueLemmas
