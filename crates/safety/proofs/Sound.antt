-- A sound machine, and that launch makes one and every step keeps it: statements 0 and 1; and that it is the one of the sentences.
pub mod Facts
pub mod Sizes
pub mod Claims
pub mod Rows
pub mod OnePage
pub mod Changed
pub mod Lists
pub mod Withdraw
pub mod Remap
pub mod Create
pub mod Delete
pub mod Steps
pub mod Launch
pub mod Named
pub mod Said
pub mod Suffices
