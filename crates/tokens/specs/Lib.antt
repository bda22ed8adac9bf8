pub mod Places
pub mod Tokens
pub mod Text
pub mod TextFaults
pub mod Reading
pub mod Tokenised
pub mod Scanning
pub mod Steps
