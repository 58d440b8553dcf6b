pub mod Findings
pub mod Answers
