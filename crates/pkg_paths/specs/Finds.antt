-- The file of a dotted name, and what a search answers.
use Rattle.std.specs.Prelude.{◌≡◌, ℕ, ◌<◌, Bool, true, false, List, [], ◌∷◌, length, Contains, Option, Some, None, Result, Ok, Err, ⊤}
use Rattle.mpy_base.specs.declared.limits.TheConstants.{MAX_READ_BYTES}
use Rattle.mpy_base.specs.declared.refused.Refused.{Refused}
use Rattle.mpy_base.specs.declared.refused.Refused.TheVariants.{Fault, NoMemory}
use Rattle.mpy_io.specs.Files.{FileOf}
use Rattle.pkg_paths.specs.declared.search.FindFault.{FindFault}
use Rattle.pkg_paths.specs.declared.search.FindFault.TheVariants.{Failed, TooLong}
use Rattle.pkg_paths.specs.declared.search.Found.{Found}

-- a file by its name and its bytes
abbrev pub NamedFile : Type 0
NamedFile = List ℕ × List ℕ

-- the first of these names that the folder has, with its bytes
abbrev pub first_there : FileOf → List (List ℕ) → Option NamedFile
first_there files [] = None
first_there files (name ∷ names) = elim (files name) [ Some bytes ↦ Some (name, bytes) | None ↦ first_there files names ]

-- what an answer says of the file: a search that failed, or found no memory, says nothing
abbrev pub Finds : Option NamedFile → Result (Option Found) (Refused FindFault) → Type 0
Finds file (Ok (Some found)) = file ≡ Some (found.name, found.bytes.items)
Finds file (Ok None) = file ≡ None
Finds file (Err (Fault (TooLong name))) = (bytes : List ℕ) × (file ≡ Some (name, bytes)) × (MAX_READ_BYTES < length bytes)
Finds file (Err (Fault (Failed name))) = ⊤
Finds file (Err NoMemory) = ⊤

-- the file that an answer names is one of these
abbrev pub NamesOneOf : List (List ℕ) → Result (Option Found) (Refused FindFault) → Type 0
NamesOneOf names (Ok (Some found)) = Contains names found.name
NamesOneOf names (Ok None) = ⊤
NamesOneOf names (Err (Fault (TooLong name))) = Contains names name
NamesOneOf names (Err (Fault (Failed name))) = Contains names name
NamesOneOf names (Err NoMemory) = ⊤

-- did a read fail outside?
abbrev pub is_failed : Result (Option Found) (Refused FindFault) → Bool
is_failed (Ok found) = false
is_failed (Err (Fault (Failed name))) = true
is_failed (Err (Fault (TooLong name))) = false
is_failed (Err NoMemory) = false
