pub mod Coverable
pub mod Ranges
pub mod Reading
pub mod Whole
