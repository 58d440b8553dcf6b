pub mod Faults
pub mod Keeping
pub mod Ledger
pub mod Requests
pub mod Views
