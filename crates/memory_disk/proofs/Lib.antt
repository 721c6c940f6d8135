pub mod Acting
pub mod Oks
pub mod Sounds
pub mod Steps
pub mod Turns
