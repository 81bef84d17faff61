pub mod EndLemmas
pub mod RelationLemmas
pub mod TakenBytes
mod PairLemmas
pub mod VerdictLemmas
pub mod WitnessLemmas
pub mod WordLemmas
mod CodeLemmas
mod ExplanationLemmas
mod PairNoteLemmas
mod TurnLemmas
mod FaultEndLemmas
