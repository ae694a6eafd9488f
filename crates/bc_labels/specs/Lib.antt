pub mod Choice
pub mod Labels
pub mod Listed
pub mod Places
pub mod Positions
