mod Numbers
mod Pieces
mod Joined
mod Plain
mod Blocks
pub mod Values
mod NodeBlocks
mod GroupBlocks
mod ZoneLines
mod Document
pub mod Parses
pub mod Octets
