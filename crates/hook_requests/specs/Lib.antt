pub mod Places
pub mod Words
pub mod Weeds
pub mod HookWords
pub mod PatternHooks
