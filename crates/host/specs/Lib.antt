pub mod Runs
pub mod Shown
pub mod Answers
pub mod Beyond
