pub mod Loads
pub mod Scan
pub mod Place
pub mod Read
pub mod Writing
pub mod Forms
