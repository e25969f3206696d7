pub mod Flat
pub mod Fuel
pub mod Headers
pub mod Lefts
pub mod Nexts
mod Openings
pub mod Orders
pub mod Placing
pub mod Reading
pub mod Sound
pub mod Typed
pub mod Worked
