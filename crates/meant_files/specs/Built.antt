-- Files of a program's units: those that compiling and merging make, and those that are translations, whoever made them.
use Rattle.std.specs.Prelude.{◌≡◌, ◌≢◌, ℕ, List, [], ◌∷◌, Option, Some, None, IsSome, codes}
use Rattle.meant_runs.specs.mpy_io.Files.{FileOf}
use Rattle.tr_source.specs.bc_scheme.mpy_tree.Raw.{Module}
use Rattle.tr_source.specs.bc_scheme.mpy_tree.File.{IsFile}
use Rattle.frozen_files.specs.pkg_paths.Finds.{NamedFile, first_there}
use Rattle.frozen_files.specs.pkg_paths.Paths.{candidates}
use Rattle.image_open.specs.bc_library.Shelf.{Shelf, member_of}
use Rattle.tr_source.specs.bc_scheme.py_meaning.Tree.{Name}
use Rattle.tr_source.specs.bc_scheme.py_meaning.Program.{Source, Unit, Single, Merge, Units, Part, Parts, Entry, Runs, Refused, Program, entry_in}
use Rattle.frozen_files.specs.mpy_compile.Compiled.{CompilesTo}
use Rattle.frozen_files.specs.mpy_compile.Checked.{IsTranslation}
use Rattle.frozen_files.specs.mpy_merge.AsMerge.{ReadsAsMerge}
use Rattle.meant_files.specs.Readings.{IsReading}
use Rattle.frozen_files.specs.library_files.Comes.{IsVerifiedFile, ending}

mutual
  -- the bytes are made of the unit
  pub data IsBuilt : Unit → (bytes : List ℕ) → Type 0 where
    -- a source compiles to them
    crossed : (level : ℕ) (text stored bytes : List ℕ) (source : Source) → CompilesTo level text stored bytes → IsReading level text stored source
        → IsBuilt (Single source) bytes
    -- they are a translation of a source, whoever made them
    checked : (level : ℕ) (text bytes : List ℕ) (source : Source) (t : IsTranslation level text bytes) → IsReading level text t.have.source source
        → IsBuilt (Single source) bytes
    -- the modules of files that are made of the parts are merged to them
    merged : (units : Units) (modules : List Module) (bytes : List ℕ) → AreBuilt units modules → ReadsAsMerge modules bytes → IsBuilt (Merge units) bytes

  -- the modules are those of files that are made of the units, one of each, in order
  pub data AreBuilt : Units → List Module → Type 0 where
    last : (unit : Unit) (bytes : List ℕ) (m : Module) → IsBuilt unit bytes → IsFile bytes m → AreBuilt (Part unit) (m ∷ [])
    next : (unit : Unit) (units : Units) (bytes : List ℕ) (m : Module) (modules : List Module) → IsBuilt unit bytes → IsFile bytes m
        → AreBuilt units modules → AreBuilt (Parts unit units) (m ∷ modules)

-- what a program has under a name, and the file of that name: it is made of the unit, or no file of a verified module where the
-- program refuses the name
abbrev pub IsBuiltEntry : Option Entry → Option NamedFile → Type 0
IsBuiltEntry (Some (Runs unit)) (Some file) = IsBuilt unit file.1
IsBuiltEntry (Some Refused) (Some file) = (m : Module) → IsVerifiedFile file.1 m → ⊥
IsBuiltEntry (Some entry) None = ⊥
IsBuiltEntry None file = ⊥

-- The program of a main file of these bytes, and of the files in the base folder that the library has: under each name that the library
-- has, the program has what the file of that name is made of, and under no other name anything.
pub record IsBuiltProgram (files : FileOf) (base bytes : List ℕ) (shelf : Shelf) (program : Program) : Type 0 where
  pub main : IsBuilt program.main bytes
  pub main_name_is : program.main_name ≡ codes "__main__"
  pub entries : (name : Name) → name ≢ codes "__main__" → IsSome (member_of shelf name)
      → IsBuiltEntry (entry_in program.entries name) (first_there files (candidates base name ending))
  pub no_more : (name : Name) → name ≢ codes "__main__" → member_of shelf name ≡ None → entry_in program.entries name ≡ None
