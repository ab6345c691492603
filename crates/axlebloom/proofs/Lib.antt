mod Turns
mod Runs
