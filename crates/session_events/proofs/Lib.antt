mod VisitLemmas
mod Looked
mod FileLemmas
pub mod OrderLemmas
pub mod LeftLemmas
mod RefusalLemmas
mod SyncLemmas
pub mod CheckLemmas
pub mod MetLemmas
pub mod TouchLemmas
