mod LimitsAre
mod Pieces
mod Shelves
