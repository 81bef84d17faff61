pub mod PointSetFacts
pub mod DimensionFacts
pub mod PredicateFacts
pub mod LeastFormFacts
