pub mod Placing
pub mod Taken
pub mod Meeting
pub mod Causes
