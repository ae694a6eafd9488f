-- The libraries of images of manifests' sources, one over another, and the programs of these.
use Rattle.std.proofs.Common.{◌≡◌, ℕ, List, [], ◌∷◌, ◌++◌, map, Some, refl, sym, ap, subst, ◌∙◌}
use Rattle.std.proofs.lemmas.List.{map-append}
use Rattle.image_open.specs.bc_library.declared.fault.Member.TheVariants as members
use Rattle.image_open.specs.bc_library.Shelf as shelves
use Rattle.image_open.specs.bc_library.Shelf.{Shelf, member_of, names, no_entries}
use Rattle.tr_source.specs.bc_scheme.py_meaning.Tree.{Name}
use Rattle.tr_source.specs.bc_scheme.py_meaning.Program.{Entry, Program, entry_in}
use Rattle.meant_runs.specs.Units.{AreUnits}
use Rattle.manifest_files.specs.image_grammar.declared.entry.Entry as images
use Rattle.manifest_files.specs.image_grammar.Image.{Differ}
use Rattle.manifest_files.specs.image_grammar.Opening.{names_of}
use Rattle.frozen_files.specs.image_freeze.Migrated.{Migrates}
use Rattle.image_open.specs.Opens.{named, IsOpenedOf, Opens, with_entries}
use Rattle.image_open.proofs.Behind.{differ_join}
use Rattle.frozen_files.specs.image_freeze.Frozen.{entries_of}
use Rattle.meant_files.specs.Programs.{AreRead, IsImageOfSources, IsLibraryOf, IsProgramOf, Sources}
use Rattle.meant_files.proofs.Places.{Matched, has_in, has_unit}
use Rattle.meant_files.proofs.Matched.{Below, matched, matched_join, modules_of, names_same, read_as, sourced, units_of}

-- bytes are opened as one library
abbrev pub OneLibrary : Type 0
OneLibrary = (images : List (List ℕ)) (below : Shelf) (bytes : List ℕ) (a b : Shelf) → IsOpenedOf images below → Opens below bytes a → Opens below bytes b → a ≡ b

-- a migrated image is opened as the same library
pub migrated : OneLibrary → (sources : Sources) (bytes out : List ℕ) → IsImageOfSources no_entries sources bytes → Migrates bytes out → IsImageOfSources no_entries sources out
migrated one sources bytes out h m =
    let before : Opens no_entries bytes (with_entries no_entries m.entries) =
    record { entries = m.entries; is_image = m.before.is_image; verified = m.before.verified; shelf_is = refl } in
    let same : with_entries no_entries (entries_of h.modules) ≡ with_entries no_entries m.entries =
    one [] no_entries bytes (with_entries no_entries (entries_of h.modules)) (with_entries no_entries m.entries) refl h.opens before in
    record {
      modules = h.modules;
      held = h.held;
      opens = record { entries = m.entries; is_image = m.after.is_image; verified = m.after.verified; shelf_is = same };
    }

names_named : (entries : List images.Entry) → map (λ (n : shelves.Named). n.name) (map named entries) ≡ names_of entries
names_named [] = refl
names_named (e ∷ es) = ap (λ (given : List Name). e.name ∷ given) (names_named es)

module _ (b : Below) where
  opened_of : (all : List Sources) (shelf : Shelf) → IsLibraryOf all shelf → (images : List (List ℕ)) × IsOpenedOf images shelf
  opened_of [] shelf h = ([], h)
  opened_of (sources ∷ all) shelf h = let more = opened_of all h.0 h.2 in (h.1 ∷ more.0, (h.0, more.1, h.4))

  -- the modules below, and those of the uppermost image
  shelf_is : (sources : Sources) (all : List Sources) (shelf : Shelf) → (h : IsLibraryOf (sources ∷ all) shelf) → shelf ≡ with_entries h.0 (entries_of h.3.modules)
  shelf_is sources all shelf h =
      let opened = opened_of all h.0 h.2 in
      b.one_library opened.0 h.0 h.1 shelf (with_entries h.0 (entries_of h.3.modules)) opened.1 h.4 h.3.opens

  none_refused : (all : List Sources) (shelf : Shelf) → IsLibraryOf all shelf → shelf.refused ≡ []
  none_refused [] shelf h = ap (λ (s : Shelf). s.refused) h
  none_refused (sources ∷ all) shelf h = ap (λ (s : Shelf). s.refused) (shelf_is sources all shelf h) ∙ none_refused all h.0 h.2

  read : (all : List Sources) (shelf : Shelf) → IsLibraryOf all shelf → (entries : List (Name × Entry)) × AreRead all entries
  read [] shelf h = ([], refl)
  read (sources ∷ all) shelf h =
      let first = read all h.0 h.2 in
      let others = sourced b sources.files h.3.held.entries h.3.modules h.3.held.sources in
      (first.0 ++ others.0, (first.0, others.0, refl, first.1, record { entries = h.3.held.entries; are = h.3.held.are; each = others.1 }))

  all_match : (all : List Sources) (shelf : Shelf) → IsLibraryOf all shelf → (entries : List (Name × Entry)) → AreRead all entries → Matched shelf.modules entries
  all_match [] shelf h entries r = subst (λ (s : Shelf). Matched s.modules entries) (sym h) (subst (Matched []) (sym r) tt)
  all_match (sources ∷ all) shelf h entries r =
      let first = all_match all h.0 h.2 r.0 r.3 in
      let others = matched b sources.files h.3.held.entries h.3.modules r.1 h.3.held.sources (read_as b sources h.3.held.entries r.1 h.3.held.are r.4) in
      let both = matched_join h.0.modules (modules_of h.3.modules) r.0 r.1 first others in
      subst (λ (s : Shelf). Matched s.modules entries) (sym (shelf_is sources all shelf h)) (subst (Matched (h.0.modules ++ modules_of h.3.modules)) (sym r.2) both)

  names_differ : (all : List Sources) (shelf : Shelf) → IsLibraryOf all shelf → Differ [] (names shelf)
  names_differ [] shelf h = subst (λ (s : Shelf). Differ [] (names s)) (sym h) tt
  names_differ (sources ∷ all) shelf h =
      let entries = h.4.entries in
      let joined = differ_join [] (names h.0) (names_of entries) (names_differ all h.0 h.2) h.4.is_image.differ in
      let whole : names shelf ≡ names h.0 ++ names_of entries =
      ap names h.4.shelf_is ∙ (map-append (λ (n : shelves.Named). n.name) h.0.modules (map named entries) ∙ ap (λ (given : List Name). names h.0 ++ given) (names_named entries)) in
      subst (Differ []) (sym whole) joined

  module _ (all : List Sources) (main : List ℕ) (shelf : Shelf) where
    pub program : (place : ℕ) → IsLibraryOf all shelf → member_of shelf main ≡ Some (members.Module place) → (program : Program) × IsProgramOf all main program
    program place h found =
        let entries = read all shelf h in
        let has = has_in main shelf.modules entries.0 (all_match all shelf h entries.0 entries.1) in
        let unit = has_unit main shelf (none_refused all shelf h) (entry_in entries.0 main) has place found in
        (record { main = unit.0; main_name = main; entries = entries.0 }, record { are = entries.1; main_is = unit.1; main_name_is = refl })

    pub units : IsLibraryOf all shelf → (program : Program) → IsProgramOf all main program → AreUnits program shelf
    units h program is = units_of shelf program main (none_refused all shelf h) (all_match all shelf h program.entries is.are) is.main_is is.main_name_is

    pub differ : IsLibraryOf all shelf → (program : Program) → IsProgramOf all main program → Differ [] (map (λ (e : Name × Entry). e.0) program.entries)
    differ h program is = subst (Differ []) (names_same shelf.modules program.entries (all_match all shelf h program.entries is.are)) (names_differ all shelf h)
