pub mod Free
pub mod Masks
pub mod Numbered
pub mod Within
