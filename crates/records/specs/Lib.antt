pub mod Lines
pub mod Records
pub mod Appending
pub mod Writing
