mod Digits
pub mod OperationRows
mod Rows
mod Texts
mod Turns
