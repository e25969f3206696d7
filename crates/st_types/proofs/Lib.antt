pub mod ExprLaws
pub mod StmtLaws
pub mod TurnsFit
pub mod TurnsAre
pub mod MadeChecked
pub mod DeclLaws
pub mod Faultless
pub mod ConstantLaws
pub mod LeastFaults
pub mod Weight
pub mod Lighter
pub mod OneAnswer
pub mod TypingRows
mod LintRows
pub mod NoteLaws
pub mod DeclNodes
pub mod PlaceLaws
pub mod ExprNodes
pub mod Finding
pub mod Wanted
pub mod WholeLaws
pub mod StmtNodes
pub mod SingleNodes
pub mod Items
mod SlotNames
