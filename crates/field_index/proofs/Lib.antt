mod Cells
mod FirstFields
pub mod Instances
pub mod Laws
mod Walking
