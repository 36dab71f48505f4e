pub mod TightArcs
pub mod PruneMarks
