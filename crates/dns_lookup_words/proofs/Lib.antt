mod Judged
mod Letters
mod ShortAddresses
mod Taken
