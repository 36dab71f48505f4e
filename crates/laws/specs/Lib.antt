pub mod Integers
pub mod Bounded
pub mod Lists
pub mod Lent
