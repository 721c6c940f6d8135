pub mod Date
pub mod Ties
pub mod Entry
pub mod Texts
pub mod Summary
pub mod Laws
