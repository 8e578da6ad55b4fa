pub mod Instances
pub mod Laws
mod Named
