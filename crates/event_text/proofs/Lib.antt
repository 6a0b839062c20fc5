pub mod TextCuts
pub mod TextNumbers
pub mod TextHex
mod TextDigits
mod TextTable
mod TextWrites
pub mod TextFields
mod TextSpaces
mod TextParts
mod TextForms
mod TextRequests
pub mod TextEvents
mod TextLast
pub mod TextLinesRead
mod TextFirsts
mod TextValid
mod TextLook
