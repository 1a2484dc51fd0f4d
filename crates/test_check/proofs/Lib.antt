mod Given
mod Tested
