pub mod Generator
pub mod Clauses
pub mod Label
pub mod Reader
pub mod Refusal
pub mod Time
