mod Numbers
mod Telling
mod Expressions
mod Handlers
mod Rooms
mod Modules
