pub mod NumeralSteps
pub mod OutcomeLaws
pub mod Worked
pub mod Firsts
pub mod LinesRead
pub mod Written
pub mod IntegerTexts
pub mod Divisions
