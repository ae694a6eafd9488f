-- How calls end.
use Rattle.std.specs.Prelude.{◌≡◌, ℕ, ◌<◌, List, [], length, fold, Result, Ok, Err}
use Rattle.mpy_base.specs.declared.refused.Refused.{Refused}
use Rattle.mpy_base.specs.declared.refused.Refused.TheVariants as refused
use Rattle.mpy_base.specs.declared.limits.TheConstants.{MAX_TABLE}
use Rattle.mpy_tree.specs.qstr_pool.Pool.{Texts, interned}
use Rattle.mpy_writer.specs.declared.fault.WriteFault.{WriteFault}
use Rattle.mpy_writer.specs.declared.fault.WriteFault.TheVariants.{TooManyNames}

-- a fault of the call is such a one
abbrev pub FaultIs : Refused WriteFault → (WriteFault → Type 0) → Type 0
FaultIs (refused.Fault fault) P = P fault
FaultIs refused.NoMemory P = Unit {0}

-- where a call ended with a fault, the fault is such a one
abbrev pub IfFault : {A : Type 0} → Result A (Refused WriteFault) → (WriteFault → Type 0) → Type 0
IfFault (Ok x) P = Unit {0}
IfFault (Err refusal) P = FaultIs refusal P

-- a table without a text
abbrev pub no_texts : Texts
no_texts = record { first = 0; texts = [] }

-- the texts after uses of some
abbrev pub all_interned : Texts → List (List ℕ) → Texts
all_interned table used = fold (λ texts text. interned texts text) table used

-- the uses are too many for the table
abbrev pub PassesTable : Texts → List (List ℕ) → WriteFault → Type 0
PassesTable table used fault = (fault ≡ TooManyNames) × (MAX_TABLE < length (all_interned table used).texts)
