pub mod Changing
pub mod Driving
pub mod Reading
pub mod Rising
pub mod Staying
pub mod Unchanged
pub mod Recovering
