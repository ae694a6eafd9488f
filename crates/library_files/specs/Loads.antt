-- The library of a main file: the modules that it imports, and those that these import, depth first.
use Rattle.std.specs.Prelude.{◌≡◌, ℕ, ◌+◌, Bool, List, [], ◌∷◌, ◌++◌, length, codes, Option, Some, None, IsSome, Ok, Err, nat_lt, if◌then◌else◌}
use Rattle.mpy_base.specs.declared.limits.TheConstants.{MAX_MODULES, MAX_TABLE}
use Rattle.mpy_io.specs.Files.{FileOf}
use Rattle.mpy_reader.specs.mpy_tree.Raw.{Module}
use Rattle.bc_library.specs.Shelf.{Shelf, no_entries, with_module, with_refused, member_of}
use Rattle.library_files.specs.declared.entry.Entry.{Entry}
use Rattle.library_files.specs.declared.entry.Entry.TheVariants as entries
use Rattle.library_files.specs.declared.limit.Limit.{Limit}
use Rattle.library_files.specs.declared.limit.Limit.TheVariants.{TooMany, Names}
use Rattle.library_files.specs.declared.limit.TheConstants.{MAX_LIBRARY_BYTES}
use Rattle.library_files.specs.declared.limit.UnacceptedSource.{UnacceptedSource}
use Rattle.library_files.specs.Imports.{Imports}
use Rattle.library_files.specs.Comes.{OfNames, ComesTo}
use Rattle.library_files.specs.Asked.{asked_for}

-- how loading ends: with the library, at the file that passes a limit, or at the source that isn't accepted
pub data Loading : Type 0 where
  Loaded : Shelf → Loading
  Past : Limit → Loading
  Unaccepted : UnacceptedSource → Loading

-- an entry of a library
-- =====================

-- is there a place for one more module or refused name?
abbrev pub has_place : Shelf → Bool
has_place shelf = nat_lt (length shelf.modules + length shelf.refused) MAX_MODULES

-- the library with what a file comes to, and how many bytes its modules' files have then
abbrev pub with_entry : Shelf → (name : List ℕ) → Entry → Shelf
with_entry shelf name entries.Absent = shelf
with_entry shelf name entries.Refused = with_refused shelf name
with_entry shelf name (entries.Held m size) = with_module shelf name m

-- how many bytes the modules' files have with an entry more
abbrev pub size_with : ℕ → Entry → ℕ
size_with size entries.Absent = size
size_with size entries.Refused = size
size_with size (entries.Held m more) = size + more

-- the limit that these pass: that of the texts comes before that of the bytes
abbrev pub limit_within : (texts size : ℕ) → Option Limit
limit_within texts size =
    if nat_lt MAX_TABLE texts then Some Names else if nat_lt MAX_LIBRARY_BYTES size then Some TooMany else None

-- the limit that an entry passes: that of the entries comes first
abbrev pub limit_of : Shelf → (size : ℕ) → (name : List ℕ) → Entry → Option Limit
limit_of shelf size name entries.Absent = None
limit_of shelf size name entries.Refused = if has_place shelf then None else Some TooMany
limit_of shelf size name (entries.Held m more) =
    if has_place shelf then limit_within (length (with_module shelf name m).pool.texts) (size + more) else Some TooMany

-- the names that an entry imports
abbrev pub EntryImports : Entry → List (List ℕ) → Type 0
EntryImports entries.Absent names = names ≡ []
EntryImports entries.Refused names = names ≡ []
EntryImports (entries.Held m size) names = Imports m names

-- loading
-- =======

-- Where names come to these: from a library whose modules' files have `size` bytes in all, with the names that are asked for
-- together by one import, the imports of the modules that were found under these, and the imports behind them.
pub data Loads (Comes : OfNames) : (shelf : Shelf) → (size : ℕ) → (together found behind : List (List ℕ)) → Loading → Type 0 where
  -- no name is left
  ends : (shelf : Shelf) (size : ℕ) → Loads Comes shelf size [] [] [] (Loaded shelf)
  -- the next import is the first of the modules found last, or of those behind
  next : (shelf : Shelf) (size : ℕ) (found behind : List (List ℕ)) (name : List ℕ) (names : List (List ℕ)) (end : Loading)
      → found ++ behind ≡ name ∷ names
      → Loads Comes shelf size (asked_for name) [] names end
      → Loads Comes shelf size [] found behind end
  -- the name is there
  known : (shelf : Shelf) (size : ℕ) (name : List ℕ) (together found behind : List (List ℕ)) (end : Loading)
      → IsSome (member_of shelf name)
      → Loads Comes shelf size together found behind end
      → Loads Comes shelf size (name ∷ together) found behind end
  -- the source of the name isn't accepted
  unaccepted : (shelf : Shelf) (size : ℕ) (name : List ℕ) (together found behind : List (List ℕ)) (source : UnacceptedSource)
      → member_of shelf name ≡ None
      → Comes name (Err source)
      → Loads Comes shelf size (name ∷ together) found behind (Unaccepted source)
  -- the file of the name passes a limit
  past : (shelf : Shelf) (size : ℕ) (name : List ℕ) (together found behind : List (List ℕ)) (entry : Entry) (limit : Limit)
      → member_of shelf name ≡ None
      → Comes name (Ok entry)
      → limit_of shelf size name entry ≡ Some limit
      → Loads Comes shelf size (name ∷ together) found behind (Past limit)
  -- the file of the name is taken, or absent
  taken : (shelf : Shelf) (size : ℕ) (name : List ℕ) (together found behind : List (List ℕ)) (entry : Entry) (imports : List (List ℕ)) (end : Loading)
      → member_of shelf name ≡ None
      → Comes name (Ok entry)
      → limit_of shelf size name entry ≡ None
      → EntryImports entry imports
      → Loads Comes (with_entry shelf name entry) (size_with size entry) together (found ++ imports) behind end
      → Loads Comes shelf size (name ∷ together) found behind end

-- the name of the main module
abbrev pub main_name : List ℕ
main_name = codes "__main__"

-- from a main module on: the limit that it passes by itself, or the end of loading
abbrev pub LoadsBy : Option Limit → OfNames → (main : Module) → (size : ℕ) → Loading → Type 0
LoadsBy (Some limit) Comes main size end = end ≡ Past limit
LoadsBy None Comes main size end =
    (imports : List (List ℕ)) × Imports main imports × Loads Comes (with_module no_entries main_name main) size [] imports [] end

-- from a main module, whose file has `size` bytes
abbrev pub LoadsWith : OfNames → (main : Module) → (size : ℕ) → Loading → Type 0
LoadsWith Comes main size end = LoadsBy (limit_of no_entries 0 main_name (entries.Held main size)) Comes main size end

-- from a main module, whose file has `size` bytes, and the files of modules in a base folder
abbrev pub LoadsFrom : FileOf → (base : List ℕ) → (main : Module) → (size : ℕ) → Loading → Type 0
LoadsFrom files base main size end = LoadsWith (ComesTo files base) main size end
