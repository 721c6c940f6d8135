mod LawsLemmas
mod LinesLemmas
