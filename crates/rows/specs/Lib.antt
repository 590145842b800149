pub mod Night
pub mod Table
pub mod Opened
pub mod Statement
