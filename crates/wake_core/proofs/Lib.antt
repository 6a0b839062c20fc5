mod NumberLemmas
mod SafetyLemmas
mod SendLemmas
mod SlotLemmas
mod StepLaws
mod StepSafety
mod TableLemmas
mod ViewLemmas
pub mod Waiting
