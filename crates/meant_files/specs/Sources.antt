-- The program of a source and of the sources that it asks for, and what a run says of it.
use Rattle.std.specs.Prelude.{◌≡◌, ℕ, List, [], ◌∷◌, ◌++◌, Option, Some, None, IsSome, codes}
use Rattle.meant_runs.specs.mpy_base.World.{PortState}
use Rattle.meant_runs.specs.mpy_io.Files.{FileOf}
use Rattle.frozen_files.specs.pkg_paths.Paths.{candidates}
use Rattle.frozen_files.specs.pkg_paths.Finds.{NamedFile, first_there}
use Rattle.tr_source.specs.bc_scheme.py_effects.Ends.{Run}
use Rattle.tr_source.specs.bc_scheme.py_meaning.Tree.{Name}
use Rattle.tr_source.specs.bc_scheme.py_meaning.Program.{Source, Single, Entry, Runs, entry_in, Program}
use Rattle.frozen_files.specs.library_files.Asked.{asked_for}
use Rattle.frozen_files.specs.source_files.Sources.{stored, source_ending}
use Rattle.meant_files.specs.Readings.{IsReading}
use Rattle.meant_runs.specs.Runs.{MeansRun}
use Rattle.meant_files.specs.Imported.{source_imports}

-- the file of the name's source: that of a package before a plain one
abbrev pub source_file : FileOf → (base : List ℕ) → Name → Option NamedFile
source_file files base name = first_there files (candidates base name source_ending)

-- the name has no source, or its file is read as this one
abbrev pub HoldsSource : FileOf → (base : List ℕ) → (level : ℕ) → Name → Option Source → Type 0
HoldsSource files base level name None = source_file files base name ≡ None
HoldsSource files base level name (Some source) =
    (file : NamedFile) × (source_file files base name ≡ Some file) × IsReading level file.1 (stored file.0) source

-- the entries with the source of a name, and the names that it imports
abbrev pub with_source : List (Name × Entry) → Name → Option Source → List (Name × Entry)
with_source entries name None = entries
with_source entries name (Some source) = entries ++ (name, Runs (Single source)) ∷ []

-- the names that a source imports, if there is one
abbrev pub imports_with : Option Source → List Name
imports_with None = []
imports_with (Some source) = source_imports source

-- From some entries, with the names that are asked for together by one import, the imports of the sources that were found under
-- these, and the imports behind them, depth first: all entries.
pub data LoadsSources (files : FileOf) (base : List ℕ) (level : ℕ)
    : (entries : List (Name × Entry)) → (together found behind : List Name) → (all : List (Name × Entry)) → Type 0 where
  -- no name is left
  ends : (entries : List (Name × Entry)) → LoadsSources files base level entries [] [] [] entries
  -- the next import is the first of the sources found last, or of those behind
  next : (entries : List (Name × Entry)) (found behind : List Name) (name : Name) (names : List Name) (all : List (Name × Entry))
      → found ++ behind ≡ name ∷ names
      → LoadsSources files base level entries (asked_for name) [] names all
      → LoadsSources files base level entries [] found behind all
  -- the name is there
  known : (entries : List (Name × Entry)) (name : Name) (together found behind : List Name) (all : List (Name × Entry))
      → IsSome (entry_in entries name)
      → LoadsSources files base level entries together found behind all
      → LoadsSources files base level entries (name ∷ together) found behind all
  -- the source of the name is taken, or absent
  taken : (entries : List (Name × Entry)) (name : Name) (together found behind : List Name) (source : Option Source) (all : List (Name × Entry))
      → entry_in entries name ≡ None
      → HoldsSource files base level name source
      → LoadsSources files base level (with_source entries name source) together (found ++ imports_with source) behind all
      → LoadsSources files base level entries (name ∷ together) found behind all

-- the program of the source of this path, as `__main__`, and of those that it asks for in the base folder, all at one level
pub record IsProgramOfSources (files : FileOf) (base path : List ℕ) (level : ℕ) (program : Program) : Type 0 where
  pub text : List ℕ
  pub there : files path ≡ Some text
  pub main : Source
  pub is_reading : IsReading level text (stored path) main
  pub main_is : program.main ≡ Single main
  pub main_name_is : program.main_name ≡ codes "__main__"
  pub loads : LoadsSources files base level ((codes "__main__", Runs (Single main)) ∷ []) [] (source_imports main) [] program.entries

-- the run of n steps says what these sources mean, in room for this many cells and bytes
pub record MeansSources (files : FileOf) (base path : List ℕ) (level cells bytes : ℕ) (ports : List PortState) (n : ℕ) (r : Run) : Type 0 where
  pub program : Program
  pub is_program : IsProgramOfSources files base path level program
  pub means : MeansRun program cells bytes ports n r
