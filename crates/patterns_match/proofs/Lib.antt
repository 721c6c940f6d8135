pub mod OperationLemmas
pub mod MachineLemmas
pub mod ListingLemmas
pub mod LiteralLemmas
pub mod BodyLemmas
pub mod SoughtLemmas
pub mod AskingLemmas
pub mod AllLemmas
