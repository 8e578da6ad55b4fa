mod Feeding
pub mod Laws
