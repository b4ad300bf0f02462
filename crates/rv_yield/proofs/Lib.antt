pub mod Fronts
mod Numbers
mod Products
mod Quotients
pub mod Steps
mod Checks
mod Sums
mod Divisions
mod Additions
pub mod Targets
pub mod Valued
pub mod Given
mod Contents
pub mod Comparisons
pub mod Sorted
pub mod Evaluation
mod TaskLaws
pub mod NeedLaws
pub mod ItemLaws
pub mod Deciding
mod ConditionLaws
mod Evaluated
mod Decided
pub mod Stored
pub mod Storing
