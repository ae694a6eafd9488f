-- What keeps the library of a source within its limits, in numbers.
use Rattle.std.specs.Prelude.{◌≡◌, ◌⊎◌, ℕ, ◌+◌, ◌<◌, ◌≤◌, List, [], ◌∷◌, length, All, Contains, Some, IsSome}
use Rattle.mpy_base.specs.declared.limits.TheConstants.{MAX_MODULES, MAX_TABLE}
use Rattle.mpy_io.specs.Files.{FileOf}
use Rattle.mpy_tree.specs.Raw.{Module}
use Rattle.qstr_pool.specs.Static.{static_number_of}
use Rattle.bc_library.specs.Texts.{texts_of}
use Rattle.py_meaning.specs.Tree.{Name}
use Rattle.py_meaning.specs.Program.{Source}
use Rattle.library_files.specs.declared.limit.TheConstants.{MAX_LIBRARY_BYTES}
use Rattle.library_files.specs.pkg_paths.Finds.{NamedFile}
use Rattle.library_files.specs.Loads.{main_name}
use Rattle.source_files.specs.Sources.{IsModuleOf, stored}
use Rattle.meant_files.specs.Readings.{IsReading}
use Rattle.meant_files.specs.Sources.{source_file}
use Rattle.meant_commands.specs.run_commands.Base.{base_of}
use Rattle.tool_laws.specs.Faultless.{IsSourceAsked}

-- the bytes of the files of these names together
abbrev pub all_bytes : (size_of : Name → ℕ) → List Name → ℕ
all_bytes size_of [] = 0
all_bytes size_of (name ∷ names) = size_of name + all_bytes size_of names

-- each text that the module brings under the name is one that every file may name, or one of these
abbrev pub BringsOnly : (texts : List (List ℕ)) → (name : Name) → Module → Type 0
BringsOnly texts name m = All (λ text. IsSome (static_number_of text) ⊎ Contains texts text) (texts_of name m)

-- These names are fewer than the modules of a library, and these texts no more than its pool has. With the main module the files of the
-- names have no more bytes than a library, where each has `size_of` at most. A source that is asked for has one of these names, no more
-- bytes than that, and only such texts; so has the main source.
pub record AreSmall (level : ℕ) (files : FileOf) (name : List ℕ) : Type 0 where
  pub names : List Name
  pub texts : List (List ℕ)
  pub size_of : Name → ℕ
  pub few_names : length names < MAX_MODULES
  pub few_texts : length texts ≤ MAX_TABLE
  pub main : (text : List ℕ) (m : Module) (size : ℕ) → files name ≡ Some text → IsModuleOf level name text m size
      → (size + all_bytes size_of names ≤ MAX_LIBRARY_BYTES) × BringsOnly texts main_name m
  pub others : (text : List ℕ) (main : Source) → files name ≡ Some text → IsReading level text (stored name) main
      → (asked : Name) → IsSourceAsked level files (base_of name) main asked
      → (file : NamedFile) → source_file files (base_of name) asked ≡ Some file → (m : Module) (size : ℕ) → IsModuleOf level file.0 file.1 m size
      → Contains names asked × (size ≤ size_of asked) × BringsOnly texts asked m
