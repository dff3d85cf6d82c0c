pub mod Absent
pub mod SlotTable
pub mod Written
