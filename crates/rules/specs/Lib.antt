-- Document 01, and of document 02 the requests that have landed, as definitions in their words. Read from the top: each module looks only at those above it. Nothing is assumed.
pub mod Words
pub mod Answers
pub mod Machine
pub mod Launch
pub mod Steps
pub mod Sound
pub mod Lists
pub mod Calls
pub mod Call
pub mod Runs
pub mod Flat
pub mod Discovery
pub mod Promises
