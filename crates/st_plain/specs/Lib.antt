pub mod Evaluator
pub mod Codes
pub mod Outcomes
pub mod Arguments
pub mod Weight
pub mod Bodies
pub mod Sound
pub mod Standing
