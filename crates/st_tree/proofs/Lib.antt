pub mod Rows
pub mod Appends
pub mod Listed
pub mod Pointwise
pub mod SameExprs
pub mod SameStmts
pub mod Worked
pub mod DeclaredSpellings
pub mod Renamed
mod WorkedSpellings
