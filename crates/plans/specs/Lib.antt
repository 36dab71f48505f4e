pub mod ShrunkRow
pub mod Comparing
pub mod SharedRow
pub mod Sharing
pub mod MergedRow
pub mod Rewritten
pub mod OnBoards
