pub mod Sources
pub mod Listing
pub mod Blocks
pub mod Savings
pub mod Choosing
pub mod Making
