pub mod ForCallers
mod Agreeing
mod Going
mod Keeps
mod Named
mod Required
mod Words
mod Written
