pub mod ForCallers
mod Agrees
mod DueSites
mod Finds
mod Firsts
mod Rises
mod SetBits
mod SetLists
mod Steps
mod Keeps
mod Lives
mod Named
mod Written
mod LastReads
mod NewsLeft
mod ExecPasts
mod CountPasts
mod NewsPasts
