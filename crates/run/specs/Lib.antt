pub mod Sides
pub mod Pairs
pub mod Running
pub mod VertexSteps
pub mod Runs
pub mod Known
pub mod Outputs
