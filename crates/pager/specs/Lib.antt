pub mod Written
pub mod Broken
pub mod Quoted
pub mod Pager
pub mod Opening
pub mod Laws
pub mod Inner
pub mod Fields
