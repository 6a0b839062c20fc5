mod Endings
mod Sources
mod Lined
mod Sendings
