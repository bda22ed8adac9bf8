pub mod Scripts
pub mod Rows
pub mod Entries
pub mod Tables
pub mod Build
