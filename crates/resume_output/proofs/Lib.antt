mod Small
mod Resumed
