-- Where no source has a fault and no limit is passed, a library is loaded.
use Rattle.std.proofs.Common.{◌≡◌, ◌⊎◌, inl, inr, ℕ, ◌+◌, ◌*◌, ◌≤◌, Bool, true, false, List, [], ◌∷◌, ◌++◌, Option, Some, None, refl, sym, ap, subst, ◌∙◌}
use Rattle.std.specs.Prelude.{⊤, Contains, IfSome, Result, Ok, Err}
use Rattle.std.specs.List.{AllByRecursion}
use Rattle.std.specs.Str.{bytes_eq}
use Rattle.mpy_base.specs.declared.room.Room.{Room}
use Rattle.mpy_base.specs.declared.source.SourceFault.{SourceFault}
use Rattle.mpy_base.specs.World.{PortState}
use Rattle.mpy_io.specs.Files.{FileOf}
use Rattle.mpy_io.specs.Ports.{PortView}
use Rattle.mpy_tree.specs.Raw.{Module}
use Rattle.mpy_tree.specs.File.{IsFile}
use Rattle.bc_library.specs.Shelf.{Shelf, member_of, no_entries, with_module}
use Rattle.py_meaning.specs.Tree.{Name}
use Rattle.py_meaning.specs.Program.{Program, Source, Single}
use Rattle.py_meaning.specs.Meaning.{meaning}
use Rattle.bc_scheme.specs.Correct.{HasEnded}
use Rattle.library_files.specs.declared.entry.Entry.TheVariants as entries
use Rattle.library_files.specs.declared.limit.Limit.{Limit}
use Rattle.library_files.specs.declared.limit.UnacceptedSource.{UnacceptedSource}
use Rattle.library_files.specs.pkg_paths.Finds.{NamedFile}
use Rattle.library_files.specs.Imports.{Imports}
use Rattle.library_files.specs.Asked.{asked_for}
use Rattle.library_files.specs.Comes.{ComesTo, FileComesTo, ModuleFiles}
use Rattle.library_files.specs.Loads.{Loading, Loaded, Past, Unaccepted, Loads, LoadsBy, LoadsFrom, ends, next, known, unaccepted, past, taken, limit_of, main_name, size_with, with_entry}
use Rattle.source_files.specs.Sources.{ComesToSource, IsModuleOf, SourceComesTo, stored}
use Rattle.meant_files.specs.Built.{IsBuilt, crossed}
use Rattle.meant_files.specs.Readings.{IsReading}
use Rattle.meant_files.specs.Sources.{IsProgramOfSources, source_file}
use Rattle.command_files.specs.mpy_compile.Compiled.{CompilesTo, IsFault}
use Rattle.command_files.specs.Opened.{HoldsModule}
use Rattle.command_files.specs.Outside.{Outside}
use Rattle.command_files.proofs.Long.{not_read as refuses_unread}
use Rattle.mpy_endings.specs.declared.ending.Ending.{Ending}
use Rattle.mpy_endings.specs.Ending.{IsRunStatus, IsSettled, status_of}
use Rattle.meant_commands.specs.run_commands.library_runs.Runs.{Sight}
use Rattle.meant_commands.specs.run_commands.declared.ready.Ready.{Ready}
use Rattle.meant_commands.specs.run_commands.Base.{base_of}
use Rattle.meant_commands.specs.run_commands.Go.{SourceLoadsOf}
use Rattle.meant_commands.specs.run_commands.Ready.{FirstOf, GoLibrary, RunLibrary, begins_image, not_read, of_file, of_image}
use Rattle.meant_commands.specs.run_commands.Run.{EndsRun, FileLibrary, LoadsOf, Runs}
use Rattle.meant_commands.specs.GoMeant.{GoMeans, MeansSources}
use Rattle.meant_commands.specs.Meant.{end_status}
use Rattle.tool_laws.specs.AskedFor.{AsksFor, file_of, unit_imports}
use Rattle.tool_laws.specs.Faultless.{AreFaultless, FilesKeepLimits, IsFaultless, IsSourceAsked, SourcesKeepLimits, main_asks, source_asks}
use Rattle.tool_laws.specs.Laws.{FileLaws, LoadLaws, SourceLaws}
use Rattle.tool_laws.specs.Runs.{OnFiles, SettledRun}
use Rattle.tool_laws.proofs.Ended.{ends_so}
use Rattle.tool_laws.proofs.Libraries.{FileSo, SourceSo, answer_by, file_so, source_so}
use Rattle.tool_laws.proofs.Loading.{Asks, OfImport, both, each}
use Rattle.tool_laws.proofs.Members.{apart, has, here, module_grows, no_member, same_name, still}
use Rattle.tool_laws.proofs.Opened.{never_refused, none_there, refused_of, same_content}
use Rattle.tool_laws.proofs.Running.{RunSo, made_end, run_so}
use Rattle.tool_laws.proofs.Settling.{settled_so, went_so}
use Rattle.tool_laws.proofs.UnitImports.{Below, file_imports}

-- what compiling says of the source that a text is read as
abbrev pub ReadingLaw : Type 0
ReadingLaw = (level : ℕ) (text name bytes : List ℕ) → CompilesTo level text name bytes → (source : Source) × IsReading level text name source

-- each source is accepted
abbrev FineEnd : Loading → Type 0
FineEnd (Loaded shelf) = ⊤
FineEnd (Past limit) = ⊤
FineEnd (Unaccepted source) = ⊥

-- sources
-- =======

module _ (b : Below) (reads : ReadingLaw) (level : ℕ) (files : FileOf) (base : List ℕ) where
  pub held_source : (x : Name) (m : Module) (size : ℕ) → ComesToSource level files base x (Ok (entries.Held m size))
      → (file : NamedFile) × (source_file files base x ≡ Some file) × IsModuleOf level file.0 file.1 m size
  held_source x m size h = by (source_file files base x) refl h
    where
      by : (o : Option NamedFile) → source_file files base x ≡ o → FileComesTo (SourceComesTo level) o (Ok (entries.Held m size))
          → (file : NamedFile) × (source_file files base x ≡ Some file) × IsModuleOf level file.0 file.1 m size
      by (Some file) e k = (file, e, k)
      by None e k = absurd (let wrong : entries.Held m size ≡ entries.Absent = k in cc)

  pub never_refused_source : (x : Name) → ComesToSource level files base x (Ok entries.Refused) → ⊥
  never_refused_source x h = by (source_file files base x) h
    where
      by : (o : Option NamedFile) → FileComesTo (SourceComesTo level) o (Ok entries.Refused) → ⊥
      by (Some file) k = k
      by None k = let wrong : entries.Refused ≡ entries.Absent = k in cc

  faulty_source : (x : Name) (source : UnacceptedSource) → ComesToSource level files base x (Err source)
      → (file : NamedFile) × (source_file files base x ≡ Some file) × IsFault level file.1 (stored file.0) source.fault
  faulty_source x source h = by (source_file files base x) refl h
    where
      by : (o : Option NamedFile) → source_file files base x ≡ o → FileComesTo (SourceComesTo level) o (Err source)
          → (file : NamedFile) × (source_file files base x ≡ Some file) × IsFault level file.1 (stored file.0) source.fault
      by (Some file) e k = (file, e, k.1)
      by None e k = absurd k

  -- a source's module imports what the source does
  pub module_imports : (path text : List ℕ) (m : Module) (size : ℕ) (names : List Name) (source : Source) → IsModuleOf level path text m size
      → IsReading level text (stored path) source → Imports m names → names ≡ unit_imports (Single source)
  module_imports path text m size names source is reading i =
      let built : IsBuilt (Single source) is.bytes = crossed level text (stored path) is.bytes source is.compiles reading in
      file_imports b (Single source) is.bytes m names built is.is.file i

  module _ (main : Source) where
    abbrev pub Asked : Name → Type 0
    Asked x = (x ≡ main_name) ⊎ IsSourceAsked level files base main x

    pub asked_by : (source : Source) → ((x : Name) → AsksFor (Single source) x → IsSourceAsked level files base main x)
        → Asks Asked (unit_imports (Single source))
    asked_by source h =
        each (OfImport Asked) (unit_imports (Single source)) (λ imported c. each Asked (asked_for imported) (λ x d. by imported x c d (bytes_eq x main_name) refl))
      where
        by : (imported x : Name) → Contains (unit_imports (Single source)) imported → Contains (asked_for imported) x → (e : Bool)
            → bytes_eq x main_name ≡ e → Asked x
        by imported x c d true e = inl (same_name x main_name e)
        by imported x c d false e = inr (h x (apart x main_name e, (imported, c, d)))

    -- the name of a further entry isn't the main module's
    pub other_source : (shelf : Shelf) (name : Name) → has shelf main_name ≡ true → member_of shelf name ≡ None → Asked name
        → IsSourceAsked level files base main name
    other_source shelf name there none (inl same) = absurd (no_member shelf name none (ap (has shelf) same ∙ there))
    other_source shelf name there none (inr asked) = asked

    pub imports_asked : (x : Name) (m : Module) (size : ℕ) (names : List Name) → IsSourceAsked level files base main x
        → ComesToSource level files base x (Ok (entries.Held m size)) → Imports m names → Asks Asked names
    imports_asked x m size names asked comes i =
        let held = held_source x m size comes in
        let read = reads level held.0.1 (stored held.0.0) held.2.bytes held.2.compiles in
        subst (Asks Asked) (sym (module_imports held.0.0 held.0.1 m size names read.0 held.2 read.1 i))
        (asked_by read.0 (λ y a. source_asks x y read.0 asked (held.0, held.1, read.1) a))

    module _ (fine : (asked : Name) → IsSourceAsked level files base main asked → (file : NamedFile) → source_file files base asked ≡ Some file
        → IsFaultless level file.0 file.1) where
      fine_end : (shelf : Shelf) (size : ℕ) (together found behind : List Name) (end : Loading)
          → Loads (ComesToSource level files base) shelf size together found behind end → has shelf main_name ≡ true
          → AllByRecursion Asked together → Asks Asked found → Asks Asked behind → FineEnd end
      fine_end shelf size [] [] [] end (ends _ _) there t f r = tt
      fine_end shelf size [] found behind end (next _ _ _ _ name names _ e h) there t f r =
          let left : Asks Asked (name ∷ names) = subst (Asks Asked) e (both (OfImport Asked) found behind f r) in
          fine_end shelf size (asked_for name) [] names end h there left.0 tt left.1
      fine_end shelf size (name ∷ together) found behind end (known _ _ _ _ _ _ _ some h) there t f r =
          fine_end shelf size together found behind end h there t.1 f r
      fine_end shelf size (name ∷ together) found behind end (unaccepted _ _ _ _ _ _ source none comes) there t f r =
          let faulty = faulty_source name source comes in
          fine name (other_source shelf name there none t.0) faulty.0 faulty.1 source.fault faulty.2
      fine_end shelf size (name ∷ together) found behind end (past _ _ _ _ _ _ entry limit none comes is) there t f r = tt
      fine_end shelf size (name ∷ together) found behind end (taken _ _ _ _ _ _ entries.Absent imports _ none comes within inner h) there t f r =
          fine_end shelf size together (found ++ imports) behind end h there t.1 (both (OfImport Asked) found imports f (subst (Asks Asked) (sym inner) tt)) r
      fine_end shelf size (name ∷ together) found behind end (taken _ _ _ _ _ _ entries.Refused imports _ none comes within inner h) there t f r =
          absurd (never_refused_source name comes)
      fine_end shelf size (name ∷ together) found behind end (taken _ _ _ _ _ _ (entries.Held m more) imports _ none comes within inner h) there t f r =
          let asked = other_source shelf name there none t.0 in
          fine_end (with_module shelf name m) (size + more) together (found ++ imports) behind end h
          (still shelf (with_module shelf name m) name main_name (module_grows shelf name m) there) t.1
          (both (OfImport Asked) found imports f (imports_asked name m more imports asked comes inner)) r

      -- from the main module on
      fine_loading : (m : Module) (size : ℕ) (imports : List Name) (source : UnacceptedSource) → imports ≡ unit_imports (Single main)
          → Loads (ComesToSource level files base) (with_module no_entries main_name m) size [] imports [] (Unaccepted source) → ⊥
      fine_loading m size imports source same h =
          let first = with_module no_entries main_name m in
          fine_end first size [] imports [] (Unaccepted source) h (here no_entries first main_name (module_grows no_entries main_name m)) tt
          (subst (Asks Asked) (sym same) (asked_by main (λ x a. main_asks x a))) tt

module _ (b : Below) (reads : ReadingLaw) (level : ℕ) (files : FileOf) (name : List ℕ) (are : AreFaultless level files name) where
  -- no source isn't accepted
  all_accepted : (source : UnacceptedSource) → SourceLoadsOf level (Some files) name (Unaccepted source) → ⊥
  all_accepted source h = by (limit_of no_entries 0 main_name (entries.Held h.main h.size)) h.loads
    where
      text_is : h.holds.source ≡ are.text
      text_is = same_content (files name) h.holds.source are.text h.holds.holds are.there

      main_read : (read : Source) × IsReading level h.holds.source (stored name) read
      main_read = reads level h.holds.source (stored name) h.holds.is.bytes h.holds.is.compiles

      by : (limit : Option Limit) → LoadsBy limit (ComesToSource level files (base_of name)) h.main h.size (Unaccepted source) → ⊥
      by (Some limit) k = let wrong : Unaccepted source ≡ Past limit = k in cc
      by None k =
          let reading : IsReading level are.text (stored name) main_read.0 = subst (λ (z : List ℕ). IsReading level z (stored name) main_read.0) text_is main_read.1 in
          fine_loading b reads level files (base_of name) main_read.0 (are.others main_read.0 reading) h.main h.size k.0 source
          (module_imports b reads level files (base_of name) name h.holds.source h.main h.size k.0 main_read.0 h.holds.is main_read.1 k.1) k.2

  never_refused_go : SourceLaws → LoadLaws → SourcesKeepLimits level files name → (ending : Ending) → IsSettled ending
      → GoLibrary level (Some files) name (Err ending) → ⊥
  never_refused_go own load limits ending s p = by (source_so own load level files name (Err ending) s p)
    where
      loading : (end : Loading) → SourceLoadsOf level (Some files) name end → Err ending ≡ answer_by end → ⊥
      loading (Loaded shelf) h e = cc
      loading (Past limit) h e = limits limit h
      loading (Unaccepted source) h e = all_accepted source h

      by : SourceSo own load level files name (Err ending) → ⊥
      by (inl x) = loading x.0 x.1 x.2
      by (inr (inl x)) =
          let same = same_content (files name) x.1.source are.text x.1.holds are.there in
          are.none x.0 (subst (λ (z : List ℕ). IsFault level z (stored name) x.0) same x.1.is)
      by (inr (inr x)) = none_there (files name) are.text x.0 are.there

-- files
-- =====

module _ (files : FileOf) (base : List ℕ) where
  never_source : (name : Name) (source : UnacceptedSource) → ComesTo files base name (Err source) → ⊥
  never_source name source h = by (file_of files base name) h
    where
      by : (o : Option NamedFile) → FileComesTo ModuleFiles o (Err source) → ⊥
      by (Some file) k = k.1
      by None k = k

  files_end : (shelf : Shelf) (size : ℕ) (together found behind : List Name) (end : Loading)
      → Loads (ComesTo files base) shelf size together found behind end → FineEnd end
  files_end shelf size [] [] [] end (ends _ _) = tt
  files_end shelf size [] found behind end (next _ _ _ _ name names _ e h) = files_end shelf size (asked_for name) [] names end h
  files_end shelf size (name ∷ together) found behind end (known _ _ _ _ _ _ _ some h) = files_end shelf size together found behind end h
  files_end shelf size (name ∷ together) found behind end (unaccepted _ _ _ _ _ _ source none comes) = never_source name source comes
  files_end shelf size (name ∷ together) found behind end (past _ _ _ _ _ _ entry limit none comes is) = tt
  files_end shelf size (name ∷ together) found behind end (taken _ _ _ _ _ _ entry imports _ none comes within inner h) =
      files_end (with_entry shelf name entry) (size_with size entry) together (found ++ imports) behind end h

  no_source : (m : Module) (size : ℕ) (source : UnacceptedSource) → LoadsFrom files base m size (Unaccepted source) → ⊥
  no_source m size source h = by (limit_of no_entries 0 main_name (entries.Held m size)) h
    where
      by : (limit : Option Limit) → LoadsBy limit (ComesTo files base) m size (Unaccepted source) → ⊥
      by (Some limit) k = let wrong : Unaccepted source ≡ Past limit = k in cc
      by None k = files_end (with_module no_entries main_name m) size [] k.0 [] (Unaccepted source) k.2

module _ (laws : FileLaws) (files : FileOf) (name : List ℕ) (m : Module) (held : HoldsModule (Some files) name m) where
  never_unread : LoadLaws → FilesKeepLimits files name → (ending : Ending) → IsSettled ending → FirstOf (FileLibrary (Some files) name) (Err ending) → ⊥
  never_unread load limits ending s p = by (file_so laws load files name (Err ending) s p)
    where
      loading : (end : Loading) → LoadsOf (Some files) name end → Err ending ≡ answer_by end → ⊥
      loading (Loaded shelf) h e = cc
      loading (Past limit) h e = limits limit h
      loading (Unaccepted source) h e = no_source files (base_of name) h.main h.size source h.loads

      by : FileSo laws load files name (Err ending) → ⊥
      by (inl x) = loading x.0 x.1 x.2
      by (inr x) = never_refused laws files name m x.0 held x.1

  -- it doesn't begin as an image
  begins_other : (bytes rest : List ℕ) → bytes ≡ 0x4d ∷ 6 ∷ rest → begins_image bytes ≡ true → ⊥
  begins_other bytes rest e h = let same : begins_image (0x4d ∷ 6 ∷ rest) ≡ true = subst (λ (z : List ℕ). begins_image z ≡ true) e h in cc

  never_image : (bytes : List ℕ) → files name ≡ Some bytes → begins_image bytes ≡ true → ⊥
  never_image bytes there begins =
      let same = same_content (files name) held.bytes bytes held.holds there in
      let is = subst (λ (z : List ℕ). IsFile z m) same held.file in
      begins_other bytes _ is.spelling.text_is begins

  same_ending : (a b : Ending) (x : Result Ready Ending) → x ≡ Err a → x ≡ Err b → a ≡ b
  same_ending a b x e f = let both = sym e ∙ f in cc

  never_refused_run : LoadLaws → FilesKeepLimits files name → (below : Shelf) (main : List ℕ) (ending : Ending) → IsSettled ending
      → RunLibrary below main (Some files) name (Err ending) → ⊥
  never_refused_run load limits below main ending s (not_read other p e) =
      let same = same_ending ending other (Err ending) refl e in
      never_refused laws files name m other held (refused_of files name other (subst IsSettled same s) (refuses_unread (Some files) name other p))
  never_refused_run load limits below main ending s (of_file bytes at begins p) = never_unread load limits ending s p
  never_refused_run load limits below main ending s (of_image bytes at short begins p) = never_image bytes at begins

-- the run
-- =======

module _ (Comes : Result Ready Ending → Type 0) (room : Room) (steps : ℕ) (old new : Sight) (said : List ℕ) where
  run_loaded : (ending : Ending) → IsSettled ending → (Comes (Err ending) → ⊥) → Runs Comes room steps old new said ending → IsRunStatus (status_of ending)
  run_loaded ending s never p = by (run_so Comes room steps old new said ending s p) where
    by : RunSo Comes room steps old new said ending → IsRunStatus (status_of ending)
    by (inl h) = subst (λ (e : Ending). IsRunStatus (status_of e)) (sym h.is) (made_end h.end steps h.over)
    by (inr h) = absurd (never h.0)

module _ (Comes : Option FileOf → (name : List ℕ) → Result Ready Ending → Type 0) (room : Room) (steps : ℕ) (name : List ℕ) (files : FileOf) (printed : List ℕ)
    (ports : List PortView) (states : List PortState) where
  -- it ends as a run does, where nothing keeps the library from being loaded
  pub runs_it : ((ending : Ending) → IsSettled ending → Comes (Some files) name (Err ending) → ⊥) → (status : ℕ)
      → SettledRun (OnFiles files (EndsRun Comes room steps name)) printed ports states status → IsRunStatus status
  runs_it never status x =
      let ending = x.went.1.ending in
      let settled = settled_so Comes room steps name files printed ports states status x in
      subst IsRunStatus (sym x.went.1.status_is)
      (run_loaded (Comes (Some files) name) room steps _ _ x.went.1.said ending settled (never ending settled)
      (went_so Comes room steps name files printed ports states status x))

module _ (own : SourceLaws) (load : LoadLaws) (b : Below) (reads : ReadingLaw) (level : ℕ) (files : FileOf) (name : List ℕ) (room : Room) (steps : ℕ) (printed : List ℕ)
    (ports : List PortView) (states : List PortState) where
  pub go_loads : (status : ℕ) → AreFaultless level files name → SourcesKeepLimits level files name
      → SettledRun (OnFiles files (EndsRun (GoLibrary level) room steps name)) printed ports states status → IsRunStatus status
  go_loads status are limits x = runs_it (GoLibrary level) room steps name files printed ports states (never_refused_go b reads level files name are own load limits) status x

  pub go_as_meant : ((old new : Outside) (ports_old ports_new : List PortView) (status : ℕ)
      → EndsRun (GoLibrary level) room steps name old new ports_old ports_new status → GoMeans level room steps name old new ports_old ports_new status)
      → (program : Program) (t status : ℕ) → AreFaultless level files name → SourcesKeepLimits level files name
      → IsProgramOfSources files (base_of name) name level program → HasEnded (meaning program room.cells room.bytes states t) → 16 * t + 16 ≤ steps
      → SettledRun (OnFiles files (EndsRun (GoLibrary level) room steps name)) printed ports states status
      → status ≡ end_status (meaning program room.cells room.bytes states t).end
  go_as_meant law program t status are limits is ended within x =
      let made = go_loads status are limits x in
      let means = subst (λ (f : Option FileOf). IfSome f (MeansSources level room steps name x.old x.new ports x.ports_new status)) x.went.0 (law x.old x.new ports x.ports_new status x.went.1) in
      ends_so program room steps states x.old x.new x.ports_new status t (means.means program is states printed x.told x.accounted x.out) made ended within

pub run_loads : FileLaws → LoadLaws → (below : Shelf) (main : List ℕ) (files : FileOf) (name : List ℕ) (room : Room) (steps : ℕ) (printed : List ℕ)
    (ports : List PortView) (states : List PortState) (m : Module) (status : ℕ) → HoldsModule (Some files) name m → FilesKeepLimits files name
    → SettledRun (OnFiles files (EndsRun (RunLibrary below main) room steps name)) printed ports states status → IsRunStatus status
run_loads laws load below main files name room steps printed ports states m status held limits x =
    runs_it (RunLibrary below main) room steps name files printed ports states (never_refused_run laws files name m held load limits below main) status x
