pub mod PairLemmas
pub mod ReaderLemmas
pub mod RunLemmas
pub mod PutLemmas
pub mod RecordLemmas
