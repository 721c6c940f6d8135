pub mod ShownLemmas
pub mod BrokenLemmas
pub mod BreakerLemmas
pub mod TextsLemmas
pub mod PagerLemmas
pub mod PrintableLemmas
