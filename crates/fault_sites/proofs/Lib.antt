mod Below
mod Bits
mod Cells
mod Counting
mod Ended
mod Few
mod Gathering
mod Going
mod GroupsFit
mod GroupsGoing
mod GroupsRead
mod GroupsShort
mod LateOnce
mod OneBit
mod Parts
mod ReadBack
mod Rising
mod Rows
mod RunFit
mod RunGoing
mod RunOnce
mod Short
mod SitesFit
mod SitesHave
mod SitesOnce
mod Spelled
mod Spending
mod Worked
pub mod Lists
pub mod Plain
pub mod WrittenScripts
pub mod Checked
pub mod Cuts
pub mod Fitted
pub mod Found
pub mod NamedGoing
pub mod NamedReadBack
pub mod LinesTaken
mod NamedShort
mod NamedWorked
