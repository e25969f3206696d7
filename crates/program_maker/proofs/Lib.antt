pub mod Turns
mod Worked
