mod Examples
pub mod Fronts
pub mod Named
pub mod PortArguments
pub mod PortNumbers
pub mod PortRefusals
pub mod PortsTold
pub mod Putting
pub mod ReportTexts
pub mod Walked
