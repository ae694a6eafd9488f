mod AtOnce
pub mod Begun
mod Called
mod Fetched
mod Free
mod Machines
mod Moves
mod Opened
mod Owed
pub mod Pays
mod Runs
mod Standing
mod Stepped
mod Steps
mod Texts
mod Titling
