pub mod Members
pub mod StarCells
pub mod StarReady
pub mod StarOn
