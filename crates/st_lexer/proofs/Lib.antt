pub mod Covers
pub mod Tables
pub mod Numbers
pub mod Spotted
pub mod Fronts
pub mod Lacking
pub mod Openings
pub mod Longest
pub mod Total
mod Worked
