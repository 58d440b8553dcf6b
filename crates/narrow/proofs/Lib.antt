pub mod Walked
pub mod Cuts
pub mod Graded
pub mod Longests
pub mod Narrowed
pub mod Viewed
