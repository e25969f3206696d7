pub mod Begin
pub mod Closing
pub mod Forms
pub mod Laws
pub mod ReadSlots
pub mod State
pub mod Told
