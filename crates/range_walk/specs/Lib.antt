pub mod Intervals
pub mod Known
pub mod Walking
pub mod RangeTable
