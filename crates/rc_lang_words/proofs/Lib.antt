pub mod WordLemmas
pub mod QuotingLemmas
pub mod ReadBack
