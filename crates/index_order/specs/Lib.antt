pub mod Keys
pub mod Order
pub mod Options
pub mod Inner
pub mod Laws
