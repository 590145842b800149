pub mod Made
pub mod Marked
