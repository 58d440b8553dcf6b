pub mod Faults
pub mod History
pub mod Laws
pub mod Reads
pub mod Runs
pub mod Steps
pub mod Views
