mod Lists
mod Given
mod Modules
