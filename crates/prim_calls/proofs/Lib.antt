pub use Rattle.prim_outputs.proofs as prim_outputs_lemmas
pub mod Bound
pub mod BuiltinNames
pub mod CallFamilies
pub mod Callable
pub mod DefaultSteps
pub mod FamilyEffects
pub mod FreeBuiltins
pub mod FreeMethods
pub mod FreeOutcomes
pub mod Judged
pub mod KeywordSlots
pub mod MethodNames
pub mod Values
