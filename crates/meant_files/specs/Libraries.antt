-- The libraries that are loaded for a source: from the sources that it asks for, and from the files that these compile to.
use Rattle.std.specs.Prelude.{◌≡◌, ℕ, List, Contains, Option, Some, None, ⊤}
use Rattle.meant_runs.specs.mpy_io.Files.{FileOf}
use Rattle.tr_source.specs.bc_scheme.mpy_tree.Raw.{Module}
use Rattle.frozen_files.specs.pkg_paths.Finds.{NamedFile, first_there}
use Rattle.frozen_files.specs.pkg_paths.Paths.{candidates}
use Rattle.image_open.specs.bc_library.Shelf.{Shelf}
use Rattle.tr_source.specs.bc_scheme.py_meaning.Tree.{Name}
use Rattle.tr_source.specs.bc_scheme.py_meaning.Program.{Source}
use Rattle.frozen_files.specs.mpy_compile.Compiled.{CompilesTo}
use Rattle.frozen_files.specs.library_files.Asked.{asked_for}
use Rattle.frozen_files.specs.library_files.Comes.{ending}
use Rattle.frozen_files.specs.library_files.Loads.{Loaded, LoadsFrom}
use Rattle.frozen_files.specs.source_files.Sources.{stored, IsModuleOf, LoadsFromSources}
use Rattle.meant_files.specs.Readings.{IsReading}
use Rattle.meant_files.specs.Imported.{source_imports}
use Rattle.meant_files.specs.Sources.{source_file, HoldsSource}

-- the module of the source of this path, with the number of its file's bytes
pub record HoldsMain (files : FileOf) (path : List ℕ) (level : ℕ) (main : Module) (size : ℕ) : Type 0 where
  pub text : List ℕ
  pub there : files path ≡ Some text
  pub is_module : IsModuleOf level path text main size

-- the library of the source of this path, which is loaded from the sources in the base folder
pub record IsOfSources (files : FileOf) (base path : List ℕ) (level : ℕ) (shelf : Shelf) : Type 0 where
  pub main : Module
  pub size : ℕ
  pub holds : HoldsMain files path level main size
  pub loads : LoadsFromSources level files base main size (Loaded shelf)

-- files of sources
-- ================

-- a source has a file that it compiles to, and no source has none
abbrev pub IsCrossed : (level : ℕ) → (source file : Option NamedFile) → Type 0
IsCrossed level (Some source) (Some file) = CompilesTo level source.1 (stored source.0) file.1
IsCrossed level (Some source) None = ⊥
IsCrossed level None (Some file) = ⊥
IsCrossed level None None = ⊤

-- a name that is asked for, by the source of this path or by one that was found under such a name
pub data IsAsked (sources : FileOf) (base path : List ℕ) (level : ℕ) : Name → Type 0 where
  by_main : (text : List ℕ) (main : Source) (imported asked : Name) → sources path ≡ Some text → IsReading level text (stored path) main
      → Contains (source_imports main) imported → Contains (asked_for imported) asked → IsAsked sources base path level asked
  by_found : (name : Name) (source : Source) (imported asked : Name) → IsAsked sources base path level name → HoldsSource sources base level name (Some source)
      → Contains (source_imports source) imported → Contains (asked_for imported) asked → IsAsked sources base path level asked

-- the files of all names that are asked for are those of their sources
abbrev pub AreCrossed : (sources files : FileOf) → (base path : List ℕ) → (level : ℕ) → Type 0
AreCrossed sources files base path level = (name : Name) → IsAsked sources base path level name
    → IsCrossed level (source_file sources base name) (first_there files (candidates base name ending))

-- the library of the source of this path, which is loaded from the files that the sources compile to
pub record IsOfFiles (sources files : FileOf) (base path : List ℕ) (level : ℕ) (shelf : Shelf) : Type 0 where
  pub main : Module
  pub size : ℕ
  pub holds : HoldsMain sources path level main size
  pub crossed : AreCrossed sources files base path level
  pub loads : LoadsFrom files base main size (Loaded shelf)
