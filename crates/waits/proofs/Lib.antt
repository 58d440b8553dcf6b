pub mod Bits
pub mod Counts
pub mod Growth
pub mod Tables
