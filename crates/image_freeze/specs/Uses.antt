-- How uses of texts end.
use Rattle.std.specs.Prelude.{◌≡◌, ℕ, ◌<◌, List, length, Result, Ok, Err}
use Rattle.mpy_base.specs.declared.refused.Refused.{Refused}
use Rattle.mpy_base.specs.declared.refused.Refused.TheVariants as refused
use Rattle.mpy_base.specs.declared.limits.TheConstants.{MAX_TABLE}
use Rattle.qstr_pool.specs.Pool.{Texts}
use Rattle.image_open.specs.bc_library.Texts.{with_texts}
use Rattle.image_open.specs.image_grammar.declared.fault.ImageFault.{ImageFault}
use Rattle.image_open.specs.image_grammar.declared.fault.ImageFault.TheVariants.{TooBig}

-- a fault of the call is such a one
abbrev pub FaultIs : Refused ImageFault → (ImageFault → Type 0) → Type 0
FaultIs (refused.Fault fault) P = P fault
FaultIs refused.NoMemory P = Unit {0}

-- where a call ended with a fault, the fault is such a one
abbrev pub IfFault : {A : Type 0} → Result A (Refused ImageFault) → (ImageFault → Type 0) → Type 0
IfFault (Ok x) P = Unit {0}
IfFault (Err refusal) P = FaultIs refusal P

-- the uses are too many for the pool
abbrev pub PassesTable : Texts → List (List ℕ) → ImageFault → Type 0
PassesTable pool used fault = (fault ≡ TooBig) × (MAX_TABLE < length (with_texts pool used).texts)
