pub mod Once
pub mod Laws
pub mod Runs
pub mod AskedFor
pub mod Programs
pub mod Outputs
pub mod Faultless
pub mod Small
