pub mod Numbers
pub mod Held
pub mod Adding
pub mod Holding
pub mod Valued
pub mod Once
pub mod Building
