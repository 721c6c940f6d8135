pub mod Parts
pub mod Stamps
pub mod Numbers
pub mod Names
pub mod Left
pub mod Met
pub mod Causes
