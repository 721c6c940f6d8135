pub mod ClockLemmas
pub mod ShownLemmas
pub mod TiesLemmas
