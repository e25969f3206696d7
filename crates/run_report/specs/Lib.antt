pub mod Lines
pub mod OperationLines
pub mod SummaryLine
pub mod Variables
