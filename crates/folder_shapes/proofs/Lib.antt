pub mod Nodes
pub mod Sorting
pub mod NumberLemmas
pub mod MaildirLemmas
pub mod MhLemmas
