pub mod Draws
pub mod Written
pub mod MadeSource
pub mod MadeRows
