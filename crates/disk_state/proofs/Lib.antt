pub mod Files
pub mod Firsts
pub mod Inserting
pub mod Places
