mod PrintedAgain
mod Replays
mod Refuted
