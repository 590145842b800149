-- Definitions that are no sentence of document 01: contracts of inner functions cite them, or laws of proofs/ are about them.
pub mod Alone
pub mod Marks
pub mod Tested
pub mod Revised
