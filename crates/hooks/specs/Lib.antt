pub mod Hooks
pub mod Fields
