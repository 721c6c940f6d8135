pub mod FrontLemmas
pub mod LawLemmas
mod Stages
mod Traces
mod Causes
mod LeastTest
mod Putting
mod Dropping
mod Unread
mod Planning
mod Rewriting
mod Adding
pub mod Ending
