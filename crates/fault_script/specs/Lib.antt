pub mod Changes
pub mod Differences
pub mod Fits
pub mod Forms
pub mod Groups
pub mod Reading
pub mod ScriptOf
pub mod Sums
