pub mod Moments
pub mod Letters
pub mod Listings
