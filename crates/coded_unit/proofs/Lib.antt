mod Bits
pub mod Modular
mod Multiples
mod Parts
pub mod Replacements
pub mod Shifts
pub mod Sizes
pub mod Steps
mod Totals
pub mod Worked
