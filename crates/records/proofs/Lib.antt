pub mod CellCodes
pub mod Ends
pub mod Appending
pub mod Remaining
pub mod Decimal
