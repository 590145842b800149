-- On the lent bytes: sizes kept, each call, step and launch on bytes as it is on machines, and demand 3 whole.
pub mod Sizes
pub mod Parted
pub mod Calls
pub mod Steps
pub mod Door
pub mod Every
pub mod Acts
pub mod Demand
