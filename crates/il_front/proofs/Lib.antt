mod HiddenSlots
mod Steps
mod Beside
mod Sound
mod WorkedRuns
mod WorkedFaults
mod Checking
mod Fitting
mod Named
mod Whole
mod WorkedHeads
pub mod LineLaws
pub mod TableLaws
pub mod Listing
pub mod PlaceLaws
pub mod HeadLaws
pub mod OneAnswer
pub mod SomeAnswer
pub mod Built
pub mod CodeSize
