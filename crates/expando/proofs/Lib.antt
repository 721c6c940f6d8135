pub mod NumberLemmas
pub mod PiecesLemmas
pub mod ColumnsLemmas
pub mod LineLemmas
pub mod CutLemmas
pub mod Fitting
pub mod PrintedLemmas
