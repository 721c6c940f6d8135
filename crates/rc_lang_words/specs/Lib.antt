pub mod Faults
pub mod Signs
pub mod Words
pub mod Laws
