mod PrintLemmas
pub mod Bodies
pub mod Digits
pub mod KeptFacts
pub mod Names
pub mod PlainNumbers
pub mod Repeats
pub mod Rooms
pub mod Wholes
pub mod CutFacts
pub mod KeptLines
