pub mod Conf
pub mod Ends
pub mod Numbers
