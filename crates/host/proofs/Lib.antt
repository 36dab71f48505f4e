pub mod Filling
pub mod Kept
pub mod Shown
pub mod Stepping
pub mod Matrices
pub mod Beyond
pub mod Examples
