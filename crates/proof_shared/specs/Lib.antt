pub mod Histories
