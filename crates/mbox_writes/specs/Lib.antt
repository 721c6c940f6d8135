pub mod Fronts
pub mod Laws
pub mod Refusals
pub mod Plan
pub mod Calls
