pub mod PendingLemmas
pub mod ByIdLemmas
pub mod ChangeLemmas
pub mod FoundLemmas
pub mod KeptLemmas
pub mod TallyLemmas
pub mod ItemsLemmas
