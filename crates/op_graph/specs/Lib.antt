pub mod Building
pub mod Chain
pub mod GraphRun
pub mod Laws
pub mod Lists
pub mod Reads
pub mod Rules
pub mod Walk
