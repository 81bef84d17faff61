pub mod EnvelopeLemmas
pub mod FoundLemmas
pub mod GroupLemmas
pub mod JoinLemmas
pub mod PackingOrder
pub mod TreeLemmas
pub mod UnpackLemmas
pub mod WalkLemmas
