mod Bridging
pub mod Counted
pub mod Counting
pub mod Entitled
mod Filing
mod Fining
pub mod Filled
pub mod Finding
mod Gathering
mod Granting
pub mod Hollowing
mod Joining
pub mod Knowing
pub mod Lying
pub mod Matching
pub mod Mixing
pub mod Numbered
pub mod Numbering
mod Objectwise
mod PaidToo
mod Partwise
pub mod Putting
mod Registering
mod Resuming
mod Returning
mod Saming
mod Saving
mod Settled
mod Showing
mod Slotting
mod Solely
mod Standing
mod Stated
mod Tabled
pub mod Valuing
pub mod Besides
pub mod Stacking
mod Wherever
mod Placing
pub mod Emptied
mod Judged
mod Laying
pub mod Readied
mod Roomy
pub mod Causing
pub mod Decoding
mod Leasting
pub mod Likening
pub mod Reframing
mod Suspending
pub mod Fitted
pub mod Framewise
