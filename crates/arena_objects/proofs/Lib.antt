pub use Rattle.arena_heap.proofs as arena_heap_lemmas
mod IterableExamples
pub mod AfterSet
pub mod NamedPlaces
pub mod Numbered
pub mod Places
pub mod Tolds
pub mod RangeNumbers
pub mod Gifts
pub mod MadeTexts
pub mod Extension
pub mod KeyCodes
pub mod Following
pub mod Standing
