-- The pool: statements 4, 5 and 6.
pub mod Counts
pub mod Pages
pub mod Lists
pub mod Bytes
pub mod Withdraw
pub mod Steps
pub mod Runs
pub mod InUse
pub mod BackCall
pub mod BackRound
pub mod ComeBack
