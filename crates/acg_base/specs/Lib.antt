pub mod Outside
pub mod Statuses
pub mod MapStores
pub mod ListSinks
pub mod Decimals
pub mod Transfers
