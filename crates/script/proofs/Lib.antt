pub mod Composing
pub mod Deciding
pub mod Single
