mod Waiting
mod LookUps
