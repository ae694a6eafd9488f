pub mod Codes
pub mod CutFiles
pub mod Cuts
pub mod Fields
pub mod Files
pub mod ImageCuts
pub mod ImageFields
pub mod Images
