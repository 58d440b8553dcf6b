pub mod EntryLemmas
pub mod Operating
pub mod Parsing
pub mod Payloading
pub mod Stepping
