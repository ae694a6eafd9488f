mod Acting
mod Beginning
mod Binary
mod BuiltinCalls
pub mod Changes
pub mod Combining
mod Comparing
mod Cutting
mod EffectCalls
mod FileConstants
mod Filling
mod FillingCalls
mod FillingEffects
mod Framing
mod Going
mod Holding
mod Iterating
mod Least
mod Meeting
mod MethodCalls
mod Moving
mod Printing
mod Returning
mod Rooms
pub mod Seen
mod Sounding
mod Stepping
mod Using
mod Writing
