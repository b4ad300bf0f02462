pub mod Machines
pub mod Effects
pub mod Stepping
pub mod Memory
pub mod Kept
pub mod Fronts
pub mod Borrowed
