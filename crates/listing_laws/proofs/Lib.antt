pub mod MemberLemmas
pub mod RiseLemmas
pub mod IdLemmas
pub mod ListingLemmas
pub mod LawLemmas
