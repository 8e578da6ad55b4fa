pub mod Clauses
pub mod Index
