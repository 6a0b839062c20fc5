mod Cutting
mod Living
mod Taking
mod Giving
