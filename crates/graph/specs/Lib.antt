pub mod Delay
pub mod Graph
pub mod Count
