pub mod CountLemmas
mod ExplanationLemmas
pub mod FileLemmas
mod NoteLemmas
pub mod PathLemmas
