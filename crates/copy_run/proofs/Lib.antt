mod Endings
mod Outlets
mod Pieces
mod Pumps
