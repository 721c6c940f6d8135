pub mod RangesLemmas
pub mod RisingLemmas
pub mod HoldingLemmas
pub mod ChangeLemmas
pub mod UprightLemmas
pub mod MembersLemmas
pub mod WrittenLemmas
pub mod MarksLemmas
