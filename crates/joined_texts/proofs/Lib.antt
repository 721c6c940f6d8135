pub mod JoinedLemmas
pub mod IdsLemmas
