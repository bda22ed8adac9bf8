pub mod Stores
pub mod Rings
pub mod Holders
pub mod Held
