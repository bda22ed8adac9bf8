pub mod Faults
pub mod Refusals
pub mod Stages
pub mod Checks
