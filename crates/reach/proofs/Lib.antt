pub mod Gathered
pub mod Gathering
pub mod Front
pub mod Spreading
pub mod Barring
pub mod Reaching
pub mod Sources
