pub mod RaisedRows
pub mod AskedDemands
pub mod Growing
pub mod FirstRows
pub mod ClearRows
pub mod Tours
pub mod SettledRows
