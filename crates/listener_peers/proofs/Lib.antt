mod Batching
mod Taking
