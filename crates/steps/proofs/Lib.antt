pub mod Reducing
pub mod Ready
