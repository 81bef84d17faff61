mod RunLemmas
pub mod StreamLemmas
mod FirstLemmas
pub mod OrderLemmas
mod OrderKeyLemmas
mod KeptLemmas
mod KeptRowLemmas
mod LookLemmas
mod MemoryLemmas
pub mod PausedLemmas
mod IterationLemmas
pub mod CandidateLemmas
mod IdleLemmas
mod IdlePairLemmas
mod KeyLemmas
mod PartnerLemmas
mod AloneLemmas
pub mod PlaceLemmas
mod ProbeLemmas
mod RowLemmas
pub mod ScanLemmas
mod StepLemmas
mod CountLemmas
mod EqualGroupLemmas
mod RowRunLemmas
mod KeyRangeLemmas
mod RangePartnerLemmas
mod TurnLemmas
mod ValueLemmas
mod WalkedPlanLemmas
pub mod WalkLemmas
pub mod WalkStateLemmas
