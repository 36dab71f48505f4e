pub mod Bytes
pub mod Patterns
pub mod Places
pub mod Examples
