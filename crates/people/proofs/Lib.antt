pub mod LiteralLemmas
pub mod PatternLemmas
pub mod JudgedLemmas
pub mod BuildLemmas
pub mod PeopleLemmas
