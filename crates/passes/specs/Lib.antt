pub mod Parts
pub mod Ranges
pub mod Names
pub mod Limits
pub mod Messages
pub mod Declarations
pub mod Tallies
pub mod Refusals
