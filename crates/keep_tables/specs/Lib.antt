pub mod Schemas
pub mod Tables
pub mod Columns
pub mod Totals
