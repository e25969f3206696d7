pub mod Answers
pub mod Marks
pub mod ExprMachine
pub mod StmtMachine
pub mod ProgramMachine
pub mod FormViews
pub mod StateViews
pub mod ProgramViews
