-- Where sources are compiled as they are asked for, and where their files are, each name comes to its source.
use Rattle.std.proofs.Common.{◌≡◌, ℕ, List, [], ◌∷◌, Option, Some, None, refl, sym, subst}
use Rattle.std.specs.Prelude.{⊤, Contains, Ok}
use Rattle.std.specs.List.{AllByRecursion}
use Rattle.std.proofs.lemmas.List.Elements.{All-contains_itself, recursion_from_All}
use Rattle.meant_runs.specs.mpy_io.Files.{FileOf}
use Rattle.frozen_files.specs.pkg_paths.Finds.{NamedFile, first_there}
use Rattle.frozen_files.specs.pkg_paths.Paths.{candidates}
use Rattle.tr_source.specs.bc_scheme.mpy_tree.File.{IsFile}
use Rattle.tr_source.specs.bc_scheme.mpy_tree.Raw.{Module}
use Rattle.bc_resolved.specs.bc_verify.Verified.{IsVerified}
use Rattle.image_open.specs.bc_library.Shelf.{Shelf}
use Rattle.tr_source.specs.bc_scheme.py_meaning.Tree.{Name}
use Rattle.tr_source.specs.bc_scheme.py_meaning.Program.{Source, Single, Program}
use Rattle.frozen_files.specs.mpy_compile.Compiled.{CompilesTo}
use Rattle.frozen_files.specs.library_files.declared.entry.Entry as loading
use Rattle.frozen_files.specs.library_files.declared.entry.Entry.TheVariants as entries
use Rattle.frozen_files.specs.library_files.Asked.{asked_for}
use Rattle.frozen_files.specs.library_files.Comes.{FileComesTo, ModuleFiles, ComesTo, ending}
use Rattle.frozen_files.specs.source_files.Sources.{stored, IsModuleOf, SourceComesTo}
use Rattle.frozen_files.specs.source_files.Sources as compiled
use Rattle.meant_files.specs.Readings.{IsReading}
use Rattle.meant_runs.specs.Units.{IsUnitFile, AreUnits}
use Rattle.meant_files.specs.Imported.{source_imports}
use Rattle.meant_files.specs.Sources.{source_file, HoldsSource, IsProgramOfSources}
use Rattle.meant_files.specs.Libraries.{IsOfSources, IsCrossed, IsAsked, by_main, by_found, AreCrossed, IsOfFiles}
use Rattle.meant_files.proofs.Loaded.{Below, SameEntry, Asks, Follows, has_units}

-- what is known of the file that a source compiles to
pub record Crosses : Type 0 where
  pub reading : (level : ℕ) (text name bytes : List ℕ) → CompilesTo level text name bytes → (source : Source) × IsReading level text name source
  pub file : (level : ℕ) (text name bytes : List ℕ) → CompilesTo level text name bytes → (m : Module) × IsFile bytes m
  pub verified : (level : ℕ) (text name bytes : List ℕ) (m : Module) → CompilesTo level text name bytes → IsFile bytes m → IsVerified m
  pub unit : (level : ℕ) (text name bytes : List ℕ) (source : Source) (m : Module) → CompilesTo level text name bytes → IsReading level text name source → IsFile bytes m → IsUnitFile (Single source) m

-- each element of a list
each : {A : Type 0} (P : A → Type 0) (xs : List A) → ((x : A) → Contains xs x → P x) → AllByRecursion P xs
each P xs h = recursion_from_All P xs (λ k d lt. h _ (All-contains_itself xs k d lt))

all_such : {A : Type 0} (P : A → Type 0) (xs : List A) → ((x : A) → P x) → AllByRecursion P xs
all_such P [] h = tt
all_such P (x ∷ xs) h = (h x, all_such P xs h)

module _ (b : Below) (c : Crosses) (of_sources : FileOf) (base : List ℕ) (level : ℕ) where
  -- sources that are compiled where they are asked for
  -- ==================================================

  compiled_entry : (name : Name) (file : NamedFile) (entry : loading.Entry) → source_file of_sources base name ≡ Some file → SourceComesTo level file.0 file.1 (Ok entry) → SameEntry of_sources base level name entry
  compiled_entry name file (entries.Held m size) is h =
      let read = c.reading level file.1 (stored file.0) h.bytes h.compiles in
      (read.0, (file, is, read.1), c.unit level file.1 (stored file.0) h.bytes read.0 m h.compiles read.1 h.is.file)
  compiled_entry name file entries.Refused is h = absurd h
  compiled_entry name file entries.Absent is h = absurd h

  source_entry : (name : Name) (file : Option NamedFile) (entry : loading.Entry) → source_file of_sources base name ≡ file → FileComesTo (SourceComesTo level) file (Ok entry) → SameEntry of_sources base level name entry
  source_entry name (Some file) entry is h = compiled_entry name file entry is h
  source_entry name None entry is h = subst (SameEntry of_sources base level name) (sym h) is

  -- every name is asked for
  abbrev Every : Name → Type 0
  Every name = ⊤

  every : (names : List Name) → AllByRecursion (Asks of_sources base level Every) names
  every names = all_such (Asks of_sources base level Every) names (λ imported. all_such Every (asked_for imported) (λ asked. tt))

  sources_follow : (origin : Source) → Follows of_sources base level Every (compiled.ComesToSource level of_sources base) origin
  sources_follow origin = record {
    same = λ name entry asked h. source_entry name (source_file of_sources base name) entry refl h;
    by_main = every (source_imports origin);
    by_found = λ name source asked holds. every (source_imports source);
  }

  -- files that sources were compiled to
  -- ===================================

  same_bytes : (name : Name) (source file : NamedFile) (entry : loading.Entry) → source_file of_sources base name ≡ Some source → CompilesTo level source.1 (stored source.0) file.1 → ModuleFiles file.0 file.1 (Ok entry)
      → SameEntry of_sources base level name entry
  same_bytes name source file (entries.Held m size) is k h =
      let read = c.reading level source.1 (stored source.0) file.1 k in
      (read.0, (source, is, read.1), c.unit level source.1 (stored source.0) file.1 read.0 m k read.1 h.0.file)
  same_bytes name source file entries.Refused is k h =
      let there = c.file level source.1 (stored source.0) file.1 k in
      h there.0 (record { file = there.1; verified = c.verified level source.1 (stored source.0) file.1 there.0 k there.1 })
  same_bytes name source file entries.Absent is k h = absurd h

  same_file : (name : Name) (source file : Option NamedFile) (entry : loading.Entry) → source_file of_sources base name ≡ source → IsCrossed level source file → FileComesTo ModuleFiles file (Ok entry)
      → SameEntry of_sources base level name entry
  same_file name (Some source) (Some file) entry is k h = same_bytes name source file entry is k h
  same_file name (Some source) None entry is k h = absurd k
  same_file name None (Some file) entry is k h = absurd k
  same_file name None None entry is k h = subst (SameEntry of_sources base level name) (sym h) is

  module _ (of_files : FileOf) (path text : List ℕ) (origin : Source) (here : of_sources path ≡ Some text) (is_reading : IsReading level text (stored path) origin) (crossed : AreCrossed of_sources of_files base path level) where
    abbrev Asked : Name → Type 0
    Asked = IsAsked of_sources base path level

    file_entry : (name : Name) (entry : loading.Entry) → Asked name → ComesTo of_files base name (Ok entry) → SameEntry of_sources base level name entry
    file_entry name entry asks h = same_file name (source_file of_sources base name) (first_there of_files (candidates base name ending)) entry refl (crossed name asks) h

    main_asks : AllByRecursion (Asks of_sources base level Asked) (source_imports origin)
    main_asks = each (Asks of_sources base level Asked) (source_imports origin) (λ imported i. each Asked (asked_for imported) (λ asked k. by_main text origin imported asked here is_reading i k))

    found_asks : (name : Name) (source : Source) → Asked name → HoldsSource of_sources base level name (Some source) → AllByRecursion (Asks of_sources base level Asked) (source_imports source)
    found_asks name source asks holds =
        each (Asks of_sources base level Asked) (source_imports source) (λ imported i. each Asked (asked_for imported) (λ asked k. by_found name source imported asked asks holds i k))

    files_follow : Follows of_sources base level Asked (ComesTo of_files base) origin
    files_follow = record { same = file_entry; by_main = main_asks; by_found = found_asks }

  -- the libraries
  -- =============

  module _ (path : List ℕ) (shelf : Shelf) where
    abbrev pub HasProgram : Type 0
    HasProgram = (program : Program) × IsProgramOfSources of_sources base path level program × AreUnits program shelf

    pub of_sources_units : IsOfSources of_sources base path level shelf → HasProgram
    of_sources_units h =
        let main = h.holds.is_module in
        let read = c.reading level h.holds.text (stored path) main.bytes main.compiles in
        let unit = c.unit level h.holds.text (stored path) main.bytes read.0 h.main main.compiles read.1 main.is.file in
        has_units of_sources base level (compiled.ComesToSource level of_sources base) Every read.0 b (sources_follow read.0) path h.holds.text h.main h.size h.holds.there read.1 unit shelf h.loads

    pub of_files_units : (of_files : FileOf) → IsOfFiles of_sources of_files base path level shelf → HasProgram
    of_files_units of_files h =
        let main = h.holds.is_module in
        let read = c.reading level h.holds.text (stored path) main.bytes main.compiles in
        let unit = c.unit level h.holds.text (stored path) main.bytes read.0 h.main main.compiles read.1 main.is.file in
        has_units of_sources base level (ComesTo of_files base) (IsAsked of_sources base path level) read.0 b (files_follow of_files path h.holds.text read.0 h.holds.there read.1 h.crossed)
        path h.holds.text h.main h.size h.holds.there read.1 unit shelf h.loads
