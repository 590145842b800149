pub mod Named
pub mod Row
