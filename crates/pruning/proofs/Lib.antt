pub mod TightPaths
pub mod TightCells
pub mod AliveSweep
pub mod Marking
pub mod MarkedRows
pub mod PruneOutcome
mod TightMarks
