pub mod Decimal
pub mod Writing
pub mod Finishing
pub mod Arrays
pub mod KindNames
pub mod Fields
pub mod Values
pub mod Examples
