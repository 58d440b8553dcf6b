pub mod Reading
pub mod Entries
pub mod Agreeing
pub mod Analysing
pub mod Turning
