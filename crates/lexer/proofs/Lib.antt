pub mod Texts
pub mod Pieces
pub mod Leads
pub mod Scans
pub mod Determined
pub mod Going
pub mod Entries
pub mod Chunks
