pub mod PutLemmas
pub mod TextLemmas
