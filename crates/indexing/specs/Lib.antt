pub mod Rows
pub mod Faults
pub mod Checks
pub mod Opening
pub mod Indexing
