pub use Rattle.arena_heap.specs as arena_heap
pub use Rattle.arena_heap.specs.qstr_pool
pub mod Found
pub mod Iterables
pub mod Keys
pub mod PlainKeys
