-- The modules of the image of a manifest's sources, and what these are read as.
use Rattle.std.proofs.Common.{◌≡◌, ℕ, List, [], ◌∷◌, ◌++◌, map, Option, Some, Ok, refl, sym, ap, ap₂, subst, ◌∙◌}
use Rattle.std.specs.List.{AllZip}
use Rattle.meant_runs.specs.mpy_io.Files.{FileOf}
use Rattle.tr_source.specs.bc_scheme.mpy_tree.File.{IsFile}
use Rattle.tr_source.specs.bc_scheme.mpy_tree.Raw.{Module}
use Rattle.tr_source.specs.bc_scheme.mpy_tree.Resolved.{ResolvedModule, Resolves}
use Rattle.image_open.specs.bc_library.Shelf as shelves
use Rattle.image_open.specs.bc_library.Shelf.{Shelf}
use Rattle.tr_source.specs.bc_scheme.py_meaning.Tree.{Name}
use Rattle.tr_source.specs.bc_scheme.py_meaning.Program.{Source, Unit, Single, Entry, Runs, Program, entry_in}
use Rattle.frozen_files.specs.mpy_compile.Compiled.{CompilesTo}
use Rattle.meant_files.specs.Readings.{IsReading}
use Rattle.meant_runs.specs.Units.{IsUnitFile, HasUnit, HasEntry, AreUnits}
use Rattle.frozen_files.specs.manifest_lines.declared.entry.Entry as manifests
use Rattle.manifest_files.specs.Entries.{Answer, IsAnswer, AreEntries}
use Rattle.image_open.specs.Opens.{named, IsOpenedOf, Opens}
use Rattle.frozen_files.specs.image_freeze.declared.named.Named.{Named}
use Rattle.frozen_files.specs.image_freeze.Frozen.{entries_of, frozen}
use Rattle.frozen_files.specs.Sources.{HoldsSource}
use Rattle.meant_files.specs.Programs.{AreSources, IsSourceOf, Sources}
use Rattle.meant_files.proofs.Places.{Matched, has_in, has_entry}

-- what the crates below say
pub record Below : Type 0 where
  pub reading : (level : ℕ) (text stored bytes : List ℕ) → CompilesTo level text stored bytes → (source : Source) × IsReading level text stored source
  pub unit : (level : ℕ) (text stored bytes : List ℕ) (source : Source) (m : Module) → CompilesTo level text stored bytes → IsReading level text stored source → IsFile bytes m → IsUnitFile (Single source) m
  pub resolves : (m : Module) (tree : ResolvedModule) → Resolves m tree → Resolves (frozen m) tree
  pub one_answer : (files : FileOf) (name : List ℕ) (first second : Answer) → IsAnswer files name first → IsAnswer files name second → first ≡ second
  pub one_library : (images : List (List ℕ)) (below : Shelf) (bytes : List ℕ) (a b : Shelf) → IsOpenedOf images below → Opens below bytes a → Opens below bytes b → a ≡ b

abbrev listed : List manifests.Entry → Answer
listed entries = Ok entries

same_entries : (a b : List manifests.Entry) → listed a ≡ listed b → a ≡ b
same_entries a b e = cc

-- the modules of a library of modules
abbrev pub modules_of : List Named → List shelves.Named
modules_of modules = map named (entries_of modules)

-- the sources of one manifest
-- ===========================

module _ (b : Below) where
  frozen_unit : (unit : Unit) (m : Module) → IsUnitFile unit m → IsUnitFile unit (frozen m)
  frozen_unit unit m h = record {
    tree = h.tree;
    resolves = b.resolves m h.tree h.resolves;
    want = h.want;
    is_module = h.is_module;
    stored = h.stored;
    fits = h.fits;
  }

  module _ (files : FileOf) where
    unit_file : (entry : manifests.Entry) (m : Named) (text : List ℕ) (source : Source) → HoldsSource (Some files) entry m → files entry.path ≡ Some text → IsReading entry.opt text entry.source source → IsUnitFile (Single source) (frozen m.held)
    unit_file entry m text source h there reading =
        let same : h.text ≡ text = by (sym h.holds ∙ there) in
        let compiles : CompilesTo entry.opt text entry.source h.is.bytes = subst (λ (t : List ℕ). CompilesTo entry.opt t entry.source h.is.bytes) same h.is.compiles in
        frozen_unit (Single source) m.held (b.unit entry.opt text entry.source h.is.bytes source m.held compiles reading h.is.is.file)
      where
        by : {x y : List ℕ} → Some x ≡ Some y → x ≡ y
        by e = cc

    pub matched : (entries : List manifests.Entry) (modules : List Named) (all : List (Name × Entry)) → AllZip (HoldsSource (Some files)) entries modules → AllZip (IsSourceOf files) entries all → Matched (modules_of modules) all
    matched [] [] [] h k = tt
    matched [] [] (e ∷ all) h k = absurd k
    matched [] (m ∷ modules) all h k = absurd h
    matched (entry ∷ entries) [] all h k = absurd h
    matched (entry ∷ entries) (m ∷ modules) [] h k = absurd k
    matched (entry ∷ entries) (m ∷ modules) (e ∷ all) h k =
        let its_name : e ≡ (m.name, Runs (Single k.0.source)) = k.0.named_is ∙ ap (λ (name : Name). (name, Runs (Single k.0.source))) (sym h.0.name_is) in
        ((Single k.0.source, its_name, unit_file entry m k.0.text k.0.source h.0 k.0.there k.0.is_reading), matched entries modules all h.1 k.1)

    pub sourced : (entries : List manifests.Entry) (modules : List Named) → AllZip (HoldsSource (Some files)) entries modules → (all : List (Name × Entry)) × AllZip (IsSourceOf files) entries all
    sourced [] modules h = ([], tt)
    sourced (entry ∷ entries) [] h = absurd h
    sourced (entry ∷ entries) (m ∷ modules) h =
        let more = sourced entries modules h.1 in
        let read = b.reading entry.opt h.0.text entry.source h.0.is.bytes h.0.is.compiles in
        ((entry.«module», Runs (Single read.0)) ∷ more.0, (record { text = h.0.text; there = h.0.holds; source = read.0; is_reading = read.1; named_is = refl }, more.1))

  -- what they are read as, by the entries of an image of them
  pub read_as : (of : Sources) (entries : List manifests.Entry) (all : List (Name × Entry)) → AreEntries of.files of.manifest entries → (are : AreSources of all) → AllZip (IsSourceOf of.files) entries all
  read_as of entries all listed_so are =
      let same : are.entries ≡ entries = same_entries are.entries entries (b.one_answer of.files of.manifest (Ok are.entries) (Ok entries) are.are listed_so) in
      subst (λ (es : List manifests.Entry). AllZip (IsSourceOf of.files) es all) same are.each

-- modules and entries that match
-- ==============================

pub matched_join : (xs ys : List shelves.Named) (ps qs : List (Name × Entry)) → Matched xs ps → Matched ys qs → Matched (xs ++ ys) (ps ++ qs)
matched_join [] ys [] qs h k = k
matched_join [] ys (p ∷ ps) qs h k = absurd h
matched_join (x ∷ xs) ys [] qs h k = absurd h
matched_join (x ∷ xs) ys (p ∷ ps) qs h k = (h.0, matched_join xs ys ps qs h.1 k)

-- the names of modules and of entries that have them
pub names_same : (xs : List shelves.Named) (ps : List (Name × Entry)) → Matched xs ps → map (λ (n : shelves.Named). n.name) xs ≡ map (λ (e : Name × Entry). e.0) ps
names_same [] [] h = refl
names_same [] (p ∷ ps) h = absurd h
names_same (x ∷ xs) [] h = absurd h
names_same (x ∷ xs) (p ∷ ps) h =
    ap₂ (λ (name : Name) (names : List Name). name ∷ names) (sym (ap (λ (e : Name × Entry). e.0) h.0.1)) (names_same xs ps h.1)

-- the units of a program whose entries match the modules of a library
pub units_of : (its : Shelf) (program : Program) (main : Name) → its.refused ≡ [] → Matched its.modules program.entries → entry_in program.entries main ≡ Some (Runs program.main) → program.main_name ≡ main → AreUnits program its
units_of its program main none match main_is main_name_is =
    let every : (name : Name) → HasEntry its name (entry_in program.entries name) = λ name. has_entry name its none (entry_in program.entries name) (has_in name its.modules program.entries match) in
    let main_unit : HasUnit its main program.main = subst (HasEntry its main) main_is (every main) in
    record {
      main = subst (λ (name : Name). HasUnit its name program.main) (sym main_name_is) main_unit;
      entries = λ name other. every name;
    }
