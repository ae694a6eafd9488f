-- What a folder tells of its files: a function from names to bytes.
use Rattle.std.specs.Prelude.{◌≡◌, ◌≢◌, ◌⊎◌, ℕ, ◌<◌, Bool, true, false, List, [], ◌++◌, length, Option, Some, None, IfSome, unwrap_or, Result, Ok, Err, Vec}
use Rattle.std.specs.declared.alloc.Global.{Global}
use Rattle.mpy_base.specs.declared.limits.TheConstants.{MAX_READ_BYTES}
use Rattle.mpy_io.specs.declared.fault.ReadFault.{ReadFault}
use Rattle.mpy_io.specs.declared.fault.ReadFault.TheVariants.{Absent, TooLong, Failed, NoMemory}

-- the bytes of the file of each name, where there is one
abbrev pub FileOf : Type 0
FileOf = List ℕ → Option (List ℕ)

-- did the read fail outside?
abbrev pub is_failed : Result (Vec ℕ Global) ReadFault → Bool
is_failed (Ok bytes) = false
is_failed (Err Absent) = false
is_failed (Err TooLong) = false
is_failed (Err Failed) = true
is_failed (Err NoMemory) = false

-- what a read says of the file: a failed one, and one that finds no memory, say nothing
abbrev pub Reads : Option (List ℕ) → Result (Vec ℕ Global) ReadFault → Type 0
Reads file (Ok bytes) = file ≡ Some bytes.items
Reads file (Err Absent) = file ≡ None
Reads file (Err TooLong) = (bytes : List ℕ) × (file ≡ Some bytes) × (MAX_READ_BYTES < length bytes)
Reads file (Err Failed) = Unit {0}
Reads file (Err NoMemory) = Unit {0}

-- the name stands for these bytes now, and each other name for what it stood for
pub record Sets (old new : FileOf) (name bytes : List ℕ) : Type 0 where
  pub here : new name ≡ Some bytes
  pub others : (other : List ℕ) → other ≢ name → new other ≡ old other

-- where a folder tells its files, it tells now that the name stands for these bytes, and each other name for what it stood for
abbrev pub Becomes : Option FileOf → Option FileOf → List ℕ → List ℕ → Type 0
Becomes old new name bytes = IfSome old (λ file. (now : FileOf) × (new ≡ Some now) × Sets file now name bytes)

-- after a call that failed: nothing changed, or the file is a front of what it was to be
abbrev pub BecomesFront : Option FileOf → Option FileOf → List ℕ → List ℕ → Type 0
BecomesFront old new name bytes = (new ≡ old) ⊎ ((front rest : List ℕ) × (bytes ≡ front ++ rest) × Becomes old new name front)

-- the bytes of a file with more behind them
abbrev pub appended : Option (List ℕ) → List ℕ → List ℕ
appended file bytes = unwrap_or file [] ++ bytes

-- the file of the name has these bytes behind those that it had, and no other file changes
abbrev pub AppendsFile : Option FileOf → Option FileOf → List ℕ → List ℕ → Type 0
AppendsFile old new name bytes = IfSome old (λ file. Becomes old new name (appended (file name) bytes))

-- a front of these bytes went to the file's end, or nothing changed
abbrev pub AppendsFileFront : Option FileOf → Option FileOf → List ℕ → List ℕ → Type 0
AppendsFileFront old new name bytes = (new ≡ old) ⊎ ((front rest : List ℕ) × (bytes ≡ front ++ rest) × AppendsFile old new name front)
