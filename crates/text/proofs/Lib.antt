pub mod TextLengths
pub mod Offsets
pub mod RunTexts
pub mod ThinTexts
