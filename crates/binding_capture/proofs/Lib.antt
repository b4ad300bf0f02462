pub mod Found
pub mod Holding
pub mod Listing
pub mod MarkedAbove
pub mod Read
