pub mod LineKinds
pub mod SampleLabels
