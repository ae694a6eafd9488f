pub mod BestOutcomes
pub mod BestSteps
pub mod Kept
pub mod LetterOrders
pub mod MadeLists
pub mod MadeTuples
pub mod TupleFills
pub mod Visits
