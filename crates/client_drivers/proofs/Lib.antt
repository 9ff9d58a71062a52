mod Driving
mod LocalSteps
mod GlobalSteps
mod TapeSteps
