pub mod Blank
pub mod Cleared
pub mod Found
pub mod Masks
