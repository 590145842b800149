-- The discovery fields: the checks of writer and reader, the fields in bytes, and a proof for each statement.
pub mod Checks
pub mod Fields
pub mod Theorems
