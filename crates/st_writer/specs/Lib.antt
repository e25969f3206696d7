pub mod Lexemes
pub mod CanonicalExpr
pub mod CanonicalStmt
pub mod CanonicalProgram
pub mod Adds
pub mod ReadsAs
