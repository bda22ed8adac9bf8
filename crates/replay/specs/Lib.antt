pub mod Faults
pub mod Policies
pub mod Stamps
pub mod Replays
pub mod Laws
pub mod Worked
