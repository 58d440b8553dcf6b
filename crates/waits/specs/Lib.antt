pub mod Words
pub mod Reach
pub mod Table
