pub mod Members
pub mod Rooted
pub mod Covers
pub mod Scans
pub mod Openers
pub mod Opened
pub mod Laid
pub mod Answered
