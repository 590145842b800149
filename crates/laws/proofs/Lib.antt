-- Laws about the definitions of `rules`, by subject.
pub mod Chop
pub mod Parts
pub mod Numbers
pub mod Widths
pub mod Records
pub mod Writes
pub mod Ranges
pub mod Places
pub mod Change
pub mod Counts
pub mod Marks
pub mod TableByte
pub mod FlatSteps
pub mod Usable
pub mod Tested
pub mod FlatLaunch
pub mod Withdrawals
