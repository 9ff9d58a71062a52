mod Queues
mod Best
mod InPlace
mod Steps
