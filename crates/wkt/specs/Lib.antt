pub mod PlainText
pub mod Printing
pub mod ReadingSteps
pub mod Cuts
pub mod KeptGeometries
pub mod Shapes
pub mod TextFaults
