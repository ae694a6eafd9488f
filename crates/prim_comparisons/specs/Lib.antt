pub mod Operands
pub mod Signs
