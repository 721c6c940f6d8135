pub mod LawsLemmas
pub mod LevelsLemmas
pub mod PartsLemmas
pub mod WeedingLemmas
