pub mod EndLemmas
pub mod RunLemmas
pub mod SinkLemmas
pub mod PartLemmas
pub mod LineLemmas
pub mod WriterLemmas
pub mod RowLemmas
