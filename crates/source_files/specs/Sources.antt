-- What a source comes to, and the library of a main module from sources.
use Rattle.std.specs.Prelude.{◌≡◌, ℕ, List, length, map, codes, nat_lt, if◌then◌else◌, Result, Ok, Err, ⊤}
use Rattle.mpy_base.specs.declared.refused.Refused.{Refused}
use Rattle.mpy_base.specs.declared.refused.Refused.TheVariants.{Fault, NoMemory}
use Rattle.mpy_base.specs.declared.source.SourceFault.{SourceFault}
use Rattle.mpy_io.specs.Files.{FileOf}
use Rattle.mpy_reader.specs.mpy_tree.Raw.{Module}
use Rattle.mpy_compile.specs.Compiled.{CompilesTo, IsFault}
use Rattle.library_files.specs.declared.entry.Entry.{Entry}
use Rattle.library_files.specs.declared.entry.Entry.TheVariants as entries
use Rattle.library_files.specs.Comes.{OfFiles, OfNames, NameComesTo, IsVerifiedFile}
use Rattle.library_files.specs.Loads.{Loading, LoadsWith}

-- a byte that isn't ASCII is replaced by a question mark
abbrev pub ascii_of : ℕ → ℕ
ascii_of byte = if nat_lt byte 128 then byte else 63

-- the name that the file of the source of this path stores
abbrev pub stored : List ℕ → List ℕ
stored path = map ascii_of path

-- the source of this path compiles to a file of the module, which is verified, and the file has `size` bytes
pub record IsModuleOf (level : ℕ) (path source : List ℕ) (m : Module) (size : ℕ) : Type 0 where
  pub bytes : List ℕ
  pub compiles : CompilesTo level source (stored path) bytes
  pub is : IsVerifiedFile bytes m
  pub size_is : size ≡ length bytes

-- what reading a source answers: the module of its file, or its first fault; want of memory says nothing
abbrev pub GivesModule : (level : ℕ) → (path source : List ℕ) → Result (Module × ℕ) (Refused SourceFault) → Type 0
GivesModule level path source (Ok given) = IsModuleOf level path source given.0 given.1
GivesModule level path source (Err (Fault fault)) = IsFault level source (stored path) fault
GivesModule level path source (Err NoMemory) = ⊤

-- what a source comes to: no source is refused without a fault
abbrev pub SourceComesTo : (level : ℕ) → OfFiles
SourceComesTo level path source (Ok (entries.Held m size)) = IsModuleOf level path source m size
SourceComesTo level path source (Ok entries.Refused) = ⊥
SourceComesTo level path source (Ok entries.Absent) = ⊥
SourceComesTo level path source (Err fault) = IsFault level source (stored path) fault

-- the ending of sources
abbrev pub source_ending : List ℕ
source_ending = codes ".py"

-- what the source of a name in the base folder comes to
abbrev pub ComesToSource : (level : ℕ) → FileOf → (base : List ℕ) → OfNames
ComesToSource level files base = NameComesTo source_ending (SourceComesTo level) base files

-- loading from a main module, whose file has `size` bytes, and from the sources in a base folder
abbrev pub LoadsFromSources : (level : ℕ) → FileOf → (base : List ℕ) → (main : Module) → (size : ℕ) → Loading → Type 0
LoadsFromSources level files base main size end = LoadsWith (ComesToSource level files base) main size end
