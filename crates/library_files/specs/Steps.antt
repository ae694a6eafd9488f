-- What the steps of loading do.
use Rattle.std.specs.Prelude.{◌≡◌, ◌⊎◌, ℕ, ◌+◌, ◌-◌, ◌^◌, ◌<◌, ◌≤◌, List, [], ◌∷◌, ◌++◌, length, reverse, Vec, Option, Some, None, IfSome, Result, Ok, Err, ⊤}
use Rattle.std.specs.List.{AllByRecursion}
use Rattle.std.specs.declared.alloc.Global.{Global}
use Rattle.mpy_base.specs.declared.limits.TheConstants.{MAX_MODULES}
use Rattle.mpy_base.specs.declared.refused.Refused.{Refused}
use Rattle.mpy_base.specs.declared.refused.Refused.TheVariants.{Fault, NoMemory}
use Rattle.mpy_io.specs.Files.{FileOf}
use Rattle.mpy_reader.specs.mpy_tree.File.{IsModule}
use Rattle.mpy_reader.specs.mpy_tree.Raw.{Module}
use Rattle.pkg_paths.specs.Plain.{IsPlain}
use Rattle.qstr_pool.specs.Pool.{Texts, interned}
use Rattle.bc_library.specs.declared.fault.LibFault.{LibFault}
use Rattle.bc_library.specs.declared.fault.LibFault.TheVariants as lib
use Rattle.bc_library.specs.Shelf.{Named, Shelf, no_entries, with_module}
use Rattle.library_files.specs.declared.entry.Entry.{Entry}
use Rattle.library_files.specs.declared.entry.Entry.TheVariants as entries
use Rattle.library_files.specs.declared.limit.Limit.TheVariants as limits
use Rattle.library_files.specs.declared.limit.LoadFault.{LoadFault}
use Rattle.library_files.specs.declared.limit.LoadFault.TheVariants.{Past, Failed, Unaccepted}
use Rattle.library_files.specs.declared.loading.Begun.{Begun}
use Rattle.library_files.specs.Comes.{OfNames}
use Rattle.library_files.specs.Imports.{Imports}
use Rattle.library_files.specs.Loads as loads
use Rattle.library_files.specs.Loads.{Loading, Loads, limit_of, with_entry, size_with, EntryImports, main_name}

-- the names that a module imports stand behind those that were there
abbrev pub AddsImports : Entry → (before after : List (List ℕ)) → Type 0
AddsImports entry before after = (imports : List (List ℕ)) × EntryImports entry imports × (after ≡ before ++ imports)

-- what taking an entry comes to: the library with it, or the limit that it passes
abbrev pub Takes : (old new : Begun) → (name : List ℕ) → Entry → Result (Unit {0}) (Refused LoadFault) → Type 0
Takes old new name entry (Ok done) =
    (limit_of old.library old.size name entry ≡ None) × (new.library ≡ with_entry old.library name entry) × (new.size ≡ size_with old.size entry)
Takes old new name entry (Err (Fault (Past limit))) = limit_of old.library old.size name entry ≡ Some limit
Takes old new name entry (Err (Fault (Failed failed))) = ⊥
Takes old new name entry (Err (Fault (Unaccepted source))) = ⊥
Takes old new name entry (Err NoMemory) = ⊤

-- a name that is absent may be remembered; another entry leaves those that are as they were
abbrev pub Remembers : (old new : Texts) → (name : List ℕ) → Entry → Type 0
Remembers old new name entries.Absent = (new ≡ old) ⊎ (new ≡ interned old name)
Remembers old new name entries.Refused = new ≡ old
Remembers old new name (entries.Held m size) = new ≡ old

-- each of the names is absent
abbrev pub AreAbsent : OfNames → List (List ℕ) → Type 0
AreAbsent Comes names = AllByRecursion (λ name. Comes name (Ok entries.Absent)) names

-- each of the names is absent from a folder that tells its files
abbrev pub AreKnownAbsent : (FileOf → OfNames) → Option FileOf → List (List ℕ) → Type 0
AreKnownAbsent Of told names = IfSome told (λ files. AreAbsent (Of files) names)

-- what a library's fault of a name that wasn't there comes to
abbrev pub LimitComesTo : Refused LibFault → Refused LoadFault → Type 0
LimitComesTo (Fault lib.Twice) refused = ⊤
LimitComesTo (Fault lib.TooMany) refused = refused ≡ Fault (Past limits.TooMany)
LimitComesTo (Fault lib.Names) refused = refused ≡ Fault (Past limits.Names)
LimitComesTo NoMemory refused = refused ≡ NoMemory

-- loading from somewhere ends as from there on, or past the limit or at the source that isn't accepted, where a step says so
abbrev pub GoesOn : {A : Type 0} → (Ends : Loading → Type 0) → (EndsThen : A → Loading → Type 0) → Result A (Refused LoadFault) → Type 0
GoesOn Ends EndsThen (Ok done) = (end : Loading) → EndsThen done end → Ends end
GoesOn Ends EndsThen (Err (Fault (Past limit))) = Ends (loads.Past limit)
GoesOn Ends EndsThen (Err (Fault (Failed failed))) = ⊤
GoesOn Ends EndsThen (Err (Fault (Unaccepted source))) = Ends (loads.Unaccepted source)
GoesOn Ends EndsThen (Err NoMemory) = ⊤

-- where a name is asked for
abbrev pub Asks : OfNames → (old new : Begun) → (name : List ℕ) → (before after : List (List ℕ)) → Result (Unit {0}) (Refused LoadFault) → Type 0
Asks Comes old new name before after result =
    (together behind : List (List ℕ)) → GoesOn (Loads Comes old.library old.size (name ∷ together) before behind)
    (λ done. Loads Comes new.library new.size together after behind) result

-- a name that is asked for
pub record IsAsked (name : List ℕ) : Type 0 where
  pub plain : IsPlain name
  pub short : length name < 2 ^ 31

-- each is a name that is asked for
abbrev pub AreAsked : List (List ℕ) → Type 0
AreAsked names = AllByRecursion IsAsked names

-- where names are asked for one after another
abbrev pub AsksAll : OfNames → (old new : Begun) → (names before after : List (List ℕ)) → Result (Unit {0}) (Refused LoadFault) → Type 0
AsksAll Comes old new names before after result =
    (behind : List (List ℕ)) → GoesOn (Loads Comes old.library old.size names before behind)
    (λ done. Loads Comes new.library new.size [] after behind) result

-- where names are asked for one after another, and none was found before
abbrev pub AsksFound : OfNames → (old new : Begun) → (names : List (List ℕ)) → Result (Vec (List ℕ) Global) (Refused LoadFault) → Type 0
AsksFound Comes old new names result =
    (behind : List (List ℕ)) → GoesOn (Loads Comes old.library old.size names [] behind)
    (λ found. Loads Comes new.library new.size [] found.items behind) result

-- where all the imports that are left are asked for one after another
abbrev pub LoadsLeft : OfNames → (old new : Begun) → (left : List (List ℕ)) → Result (Unit {0}) (Refused LoadFault) → Type 0
LoadsLeft Comes old new left result =
    GoesOn (Loads Comes old.library old.size [] left []) (λ done end. end ≡ loads.Loaded new.library) result

-- what a step keeps
-- =================

-- each is a module that a file may hold
abbrev pub AreModules : List Named → Type 0
AreModules modules = AllByRecursion (λ n. IsModule n.held) modules

-- behind the modules that were there stand such as a file may hold
pub record AddsModules (old new : Shelf) : Type 0 where
  pub more : List Named
  pub modules_are : new.modules ≡ old.modules ++ more
  pub hold : AreModules more

-- how many more modules or refused names there is a place for
abbrev pub places_left : Shelf → ℕ
places_left shelf = MAX_MODULES - (length shelf.modules + length shelf.refused)

-- each name has fewer than 2^31 bytes
abbrev pub AreShort : List (List ℕ) → Type 0
AreShort names = AllByRecursion (λ name. length name < 2 ^ 31) names

-- names are found only where the library grows, and none is long
pub record Step (old new : Shelf) (before after : List (List ℕ)) : Type 0 where
  pub adds : AddsModules old new
  pub fewer : places_left new ≤ places_left old
  pub grows : (after ≡ before) ⊎ (places_left new < places_left old)
  pub short : AreShort before → AreShort after

-- the beginning
-- =============

-- no module is loaded, and no name was absent
pub record IsNothing (begun : Begun) : Type 0 where
  pub library_is : begun.library ≡ no_entries
  pub size_is : begun.size ≡ 0
  pub absent_is : begun.absent.texts ≡ []

-- the library of the main module alone, and the names that it imports, from the last to the first
pub record IsBegun (main : Module) (size : ℕ) (begun : Begun) (left : List (List ℕ)) : Type 0 where
  pub within : limit_of no_entries 0 main_name (entries.Held main size) ≡ None
  pub library_is : begun.library ≡ with_module no_entries main_name main
  pub size_is : begun.size ≡ size
  pub absent_is : begun.absent.texts ≡ []
  pub imports : Imports main (reverse left)
  pub held : IsModule main
  pub short : AreShort left

-- how loading begins, or the limit that the main module passes
abbrev pub BeginsBy : Module → (size : ℕ) → Result (Begun × Vec (List ℕ) Global) (Refused LoadFault) → Type 0
BeginsBy main size (Ok begun) = IsBegun main size begun.0 begun.1.items
BeginsBy main size (Err (Fault (Past limit))) = limit_of no_entries 0 main_name (entries.Held main size) ≡ Some limit
BeginsBy main size (Err (Fault (Failed failed))) = ⊥
BeginsBy main size (Err (Fault (Unaccepted source))) = ⊥
BeginsBy main size (Err NoMemory) = ⊤
