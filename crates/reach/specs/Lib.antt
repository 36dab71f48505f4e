pub mod RowSets
pub mod Spread
