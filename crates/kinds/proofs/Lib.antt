pub mod Waiting
pub mod Messages
pub mod Commits
pub mod Reduced
