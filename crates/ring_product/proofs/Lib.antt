mod Columns
mod Steps
mod Wiped
