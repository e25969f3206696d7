pub mod Distinct
pub mod Making
pub mod Weighing
pub mod Worked
