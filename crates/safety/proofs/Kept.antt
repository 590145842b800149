-- What no step touches: statements 2 and 3.
pub mod Sealed
pub mod Untouched
pub mod Fates
pub mod Given
pub mod Steps
