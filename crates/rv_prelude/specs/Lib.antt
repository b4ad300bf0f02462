pub mod Region
pub mod Pieces
pub mod Items
pub mod PieceRuns
pub mod EntryRuns
