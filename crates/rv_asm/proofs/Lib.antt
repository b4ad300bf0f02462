pub mod Registers
pub mod WordBytes
pub mod Places
pub mod Regions
pub mod Words
pub mod Outputs
pub mod Stretches
pub mod Moments
pub mod BridgeSteps
pub mod BridgeInstructions
pub mod BridgeExits
pub mod Bridge
pub mod Follows
pub mod Encodings
pub mod Constants
pub mod Copies
pub mod Calls
pub mod Messages
pub mod Distances
pub mod Labels
pub mod LabelsKept
pub mod LabelsArrive
mod Examples
pub mod Appended
pub mod Fronts
pub mod Sending
mod LabelsExample
pub mod PieceLeads
