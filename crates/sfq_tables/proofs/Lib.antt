pub mod ConstantLemmas
pub mod HandedTexts
pub mod NamedColumnLemmas
pub mod OperandLemmas
pub mod Reports
pub mod SlotLemmas
pub mod SteppedRows
pub mod TextsOfTables
