pub mod OrderLemmas
pub mod NameLemmas
