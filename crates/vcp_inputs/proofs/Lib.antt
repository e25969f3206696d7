pub mod Causes
mod FilesLoaded
mod RowsLoaded
pub mod Lines
mod ToldLines
pub mod NotBytes
pub mod RowsRead
pub mod RowsWorked
pub mod Taken
pub mod TakenImages
pub mod TakenScripts
pub mod TakenWires
pub mod CodeWords
pub mod FormRows
mod FormsByFiles
pub mod Sound
pub mod WordsSteps
mod Causing
mod ListsTold
mod Reduced
pub mod Worked
