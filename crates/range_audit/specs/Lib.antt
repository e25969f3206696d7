pub mod Audit
pub mod RangeText
pub mod Searching
