mod AloneLemmas
mod PartLemmas
pub mod ActsLemmas
mod HidingLemmas
pub mod IndexLemmas
pub mod DeskLemmas
mod JoinedLemmas
mod ViewingLemmas
