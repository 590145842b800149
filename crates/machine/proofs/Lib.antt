pub mod Placed
pub mod Tested
