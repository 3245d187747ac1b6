pub mod Checks
pub mod Effects
pub mod Fronts
pub mod Grammars
pub mod Lasts
pub mod Offsets
pub mod Spellings
pub mod Steps
