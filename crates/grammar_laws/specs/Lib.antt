pub mod QueryLaws
pub mod SchemaLaws
pub mod FilterLaws
pub mod BoundLaws
pub mod RuleLaws
