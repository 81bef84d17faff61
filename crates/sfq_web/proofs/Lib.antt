pub mod PieceFacts
pub mod ServingFacts
