pub mod Ranges
pub mod SequenceLine
pub mod Sequences
pub mod Laws
pub mod Marks
