pub mod Captures
pub mod Events
pub mod Matches
