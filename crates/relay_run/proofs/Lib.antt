mod Lending
mod Listening
mod Rounds
mod Running
