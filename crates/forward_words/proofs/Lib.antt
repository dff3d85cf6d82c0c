mod Judged
mod Taken
