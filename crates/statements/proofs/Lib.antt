pub mod BindingLemmas
mod ColumnLemmas
pub mod ConstantFacts
mod JoinedLines
mod LineLemmas
mod NameLemmas
mod PrepareLemmas
pub mod QueryFacts
pub mod ReplacedFacts
pub mod SearchFacts
pub mod Sizes
mod StepLemmas
mod StreamFacts
mod TextLemmas
mod WithinLemmas
