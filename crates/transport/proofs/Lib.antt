mod Acting
mod Demand3
pub mod Instances
pub mod Laws
mod Obeying
mod Running
mod Targets
