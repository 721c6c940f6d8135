pub mod LongOption
pub mod Options
pub mod ShortOption
pub mod Switch
pub mod Words
