-- The statements: demands 1 and 3, that promises determine their results, and the discovery fields; before them their words.
pub mod Terms
pub mod Sentences
pub mod Statements
pub mod Determined
pub mod Discovery
