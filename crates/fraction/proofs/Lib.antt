pub mod RangeLemmas
pub mod DivisorLemmas
pub mod OrderLemmas
pub mod MediantLemmas
