pub mod Chosen
pub mod Outcomes
