pub mod Asking
pub mod Inners
pub mod Plays
pub mod Recordings
