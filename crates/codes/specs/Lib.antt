pub mod Beyond
pub mod Rp013Code
pub mod TimeCode
