pub mod Grammar
pub mod Forms
pub mod Machine
pub mod Stacks
pub mod Parts
pub mod Verdicts
