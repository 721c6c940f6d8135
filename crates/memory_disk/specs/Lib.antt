pub mod Plan
pub mod Entering
pub mod Remembered
pub mod Plain
