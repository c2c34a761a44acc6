pub mod Cuts
mod CommaWords
mod FieldsNamed
pub mod Judged
pub mod Parts
pub mod Chunks
pub mod Chunked
pub mod Heads
pub mod RequestParts
pub mod Pieces
