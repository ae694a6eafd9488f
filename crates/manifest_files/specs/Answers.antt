-- What the parts of a collection answer.
use Rattle.std.specs.Prelude.{◌≡◌, ℕ, Bool, true, false, List, Option, Some, None, Result, Ok, Err, Vec}
use Rattle.std.specs.declared.alloc.Global.{Global}
use Rattle.mpy_base.specs.declared.refused.Refused.{Refused}
use Rattle.mpy_base.specs.declared.refused.Refused.TheVariants as refused
use Rattle.manifest_lines.specs.declared.entry.Entry.{Entry}
use Rattle.manifest_lines.specs.declared.manifest.Line.{Line}
use Rattle.manifest_files.specs.declared.fault.ManifestFault.{ManifestFault}
use Rattle.manifest_files.specs.declared.fault.ManifestFault.TheVariants.{BadCall, Loop, Twice, Absent, Required, Deep, TooMany, ReadFault}
use Rattle.manifest_files.specs.Entries.{Said, Saying, Itself, Another, AreLines, entries_after}

-- is it the fault of a read that failed outside?
abbrev pub is_read_fault : ManifestFault → Bool
is_read_fault (BadCall name line) = false
is_read_fault (Loop name) = false
is_read_fault (Twice name) = false
is_read_fault (Absent name) = false
is_read_fault (Required name) = false
is_read_fault (Deep name) = false
is_read_fault TooMany = false
is_read_fault (ReadFault name) = true

-- where a read failed outside, this is so of the name of the file
abbrev pub OfRead : (List ℕ → Type 0) → ManifestFault → Type 0
OfRead Read (BadCall name line) = Unit {0}
OfRead Read (Loop name) = Unit {0}
OfRead Read (Twice name) = Unit {0}
OfRead Read (Absent name) = Unit {0}
OfRead Read (Required name) = Unit {0}
OfRead Read (Deep name) = Unit {0}
OfRead Read TooMany = Unit {0}
OfRead Read (ReadFault name) = Read name

-- whether a read failed outside
abbrev pub is_outside : Refused ManifestFault → Bool
is_outside (refused.Fault fault) = is_read_fault fault
is_outside refused.NoMemory = false

-- whether a call's answer is that a read failed outside
abbrev pub is_failed : {A : Type 0} → Result A (Refused ManifestFault) → Bool
is_failed (Ok value) = false
is_failed (Err error) = is_outside error

-- the entries that were there became those behind what is said
abbrev pub Leads : List Entry → List Said → Result (Unit {0}) (Refused ManifestFault) → List Entry → Type 0
Leads before said (Ok done) after = entries_after before said ≡ Ok after
Leads before said (Err (refused.Fault fault)) after = entries_after before said ≡ Err fault
Leads before said (Err refused.NoMemory) after = Unit {0}

-- the entries that were there became those behind what a line says by itself; a manifest that it includes is named
abbrev pub Follows : List Entry → Saying → Result (Option (List ℕ)) (Refused ManifestFault) → List Entry → Type 0
Follows before (Itself said) (Ok None) after = entries_after before said ≡ Ok after
Follows before (Itself said) (Ok (Some inner)) after = ⊥
Follows before (Itself said) (Err (refused.Fault fault)) after = entries_after before said ≡ Err fault
Follows before (Another name) (Ok None) after = ⊥
Follows before (Another name) (Ok (Some inner)) after = (inner ≡ name) × (after ≡ before)
Follows before (Another name) (Err (refused.Fault fault)) after = ⊥
Follows before saying (Err refused.NoMemory) after = Unit {0}

-- what is read of a file; of a read that failed nothing is said
abbrev pub LinesOf : Option (List ℕ) → (name : List ℕ) → Result (Vec Line Global) (Refused ManifestFault) → Type 0
LinesOf file name (Ok lines) = (bytes : List ℕ) × (file ≡ Some bytes) × AreLines bytes lines.items
LinesOf file name (Err (refused.Fault (Absent other))) = (other ≡ name) × (file ≡ None)
LinesOf file name (Err (refused.Fault (ReadFault other))) = Unit {0}
LinesOf file name (Err (refused.Fault fault)) = ⊥
LinesOf file name (Err refused.NoMemory) = Unit {0}

-- a manifest leads from the entries that were there to these, or to its first fault; of a read that failed nothing is said
abbrev pub Tells : (List Said → Type 0) → List Entry → Result (Unit {0}) (Refused ManifestFault) → List Entry → Type 0
Tells says before (Ok done) after = (said : List Said) × says said × (entries_after before said ≡ Ok after)
Tells says before (Err (refused.Fault (ReadFault name))) after = Unit {0}
Tells says before (Err (refused.Fault fault)) after = (said : List Said) × says said × (entries_after before said ≡ Err fault)
Tells says before (Err refused.NoMemory) after = Unit {0}

-- the fault of a line that is no call
abbrev pub IsBadCall : (name : List ℕ) → (line : ℕ) → Refused ManifestFault → Type 0
IsBadCall name line (refused.Fault fault) = fault ≡ BadCall name line
IsBadCall name line refused.NoMemory = Unit {0}
