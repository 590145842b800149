-- Proofs of the statements in specs/, a folder for each subject; before the folders what they share. Theorems has them by their numbers.
pub mod Small
pub mod Branches
pub mod Effects
pub mod Elsewhere
pub mod Entries
pub mod Checks
pub mod Keeping
pub mod Always
pub mod Sound
pub mod Kept
pub mod Pool
pub mod Bytes
pub mod Results
pub mod Numbers
pub mod Discovery
pub mod Theorems
