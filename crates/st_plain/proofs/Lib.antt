pub mod Wide
pub mod Exprs
pub mod Stmts
pub mod Runs
pub mod Cells
pub mod Worked
