pub mod Causes
pub mod Entries
pub mod Numbers
pub mod Steps
pub mod Taken
pub mod Gathering
mod WellFormedText
