pub mod Moves
pub mod Conditions
pub mod Branches
pub mod Adds
pub mod Parts
pub mod Steps
