pub mod Stamp
pub mod Regions
pub mod MessageCore
pub mod Status
pub mod WithStatus
pub mod Rewriting
