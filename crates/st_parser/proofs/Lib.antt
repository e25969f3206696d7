mod Worked
pub mod ExprTables
pub mod ExprComplete
pub mod ExprSound
pub mod ExprDeep
pub mod StmtDeep
pub mod ProgramDeep
pub mod ExactPlace
pub mod OneAnswer
pub mod ExprEarliest
pub mod Appends
pub mod TokenSteps
pub mod LabelComplete
pub mod StmtComplete
pub mod ProgramComplete
pub mod Deeper
pub mod TokenFaults
pub mod OneProgram
pub mod Lifts
pub mod MarkTable
pub mod SoFar
pub mod LabelSound
pub mod StmtSound
pub mod ProgramSound
pub mod ProgramEarliest
pub mod Refusal
pub mod Paths
pub mod Verdicts
pub mod Frames
pub mod LevelViews
pub mod Running
pub mod HandedOn
mod MarkTests
mod LabelPhases
mod Unended
