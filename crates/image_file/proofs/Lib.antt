pub mod PieceLaws
pub mod Entries
pub mod Sections
pub mod Places
pub mod Loop
pub mod Kept
pub mod Found
pub mod Worked
pub mod Appended
mod Chains
pub mod Admits
pub mod FittingLists
pub mod FittingOperations
pub mod FittingGraphs
pub mod KeyLists
mod Walks
