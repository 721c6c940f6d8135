pub mod CandidatesLemmas
pub mod CharsetLemmas
pub mod DecodeLemmas
pub mod FoldedFieldLemmas
pub mod IdsLemmas
pub mod PeopleLemmas
pub mod ReferencesLemmas
pub mod SubjectLemmas
