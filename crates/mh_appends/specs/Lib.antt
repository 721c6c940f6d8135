pub mod Replacing
pub mod Leftovers
pub mod Placing
pub mod Putting
