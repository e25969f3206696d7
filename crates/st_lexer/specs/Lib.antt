pub mod Literals
pub mod Pieces
pub mod Reading
pub mod Spots
pub mod Symbols
pub mod TokenList
pub mod TokenSpellings
pub mod Words
