pub mod Drafts
pub mod Bodies
pub mod Sound
pub mod Placed
pub mod Answers
