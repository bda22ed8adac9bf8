pub mod Opening
pub mod Runs
pub mod Rising
pub mod Steps
pub mod Props
