pub mod NumberReads
pub mod HeightFacts
pub mod Loops
pub mod FaceFacts
pub mod FarFacts
pub mod WitnessFacts
pub mod SharedFacts
pub mod ClashFacts
pub mod RingNumbers
pub mod InsideFacts
pub mod PartFacts
pub mod PlaceFacts
pub mod MeetingFacts
pub mod DivisorLemmas
pub mod FractionLemmas
pub mod TextLemmas
pub mod FaultTextLemmas
mod VerdictLemmas
