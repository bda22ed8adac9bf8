pub mod Cells
pub mod Meanings
