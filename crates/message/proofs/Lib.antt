pub mod Pages
pub mod Filters
pub mod Fronts
pub mod Decimals
pub mod Joining
pub mod Weighing
pub mod Ticketing
