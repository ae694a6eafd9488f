-- The library that is loaded where each name comes to the file of its source has the units of the program of the sources.
use Rattle.std.proofs.Common.{◌≡◌, ℕ, ◌+◌, List, [], ◌∷◌, ◌++◌, Option, Some, None, codes, refl, sym, ap, ◌∙◌, subst}
use Rattle.std.specs.Prelude.{⊤, IsSome, Ok}
use Rattle.std.specs.List.{AllByRecursion}
use Rattle.meant_runs.specs.mpy_io.Files.{FileOf}
use Rattle.tr_source.specs.bc_scheme.mpy_tree.Raw.{Module}
use Rattle.tr_source.specs.bc_scheme.mpy_tree.Resolved.{ResolvedModule, Resolves}
use Rattle.image_open.specs.bc_library.Shelf.{Shelf, no_entries, with_module}
use Rattle.tr_source.specs.bc_scheme.py_meaning.Tree.{Name}
use Rattle.tr_source.specs.bc_scheme.py_meaning.Program.{Source, Single, Entry, Runs, entry_in, Program}
use Rattle.tr_source.specs.bc_scheme.Link.{IsModuleOf, translated}
use Rattle.tr_source.specs.bc_scheme.Translation.{Translates}
use Rattle.frozen_files.specs.library_files.declared.entry.Entry as loading
use Rattle.frozen_files.specs.library_files.declared.entry.Entry.TheVariants as entries
use Rattle.frozen_files.specs.library_files.declared.limit.Limit.{Limit}
use Rattle.frozen_files.specs.library_files.Imports.{Imports, imports_of}
use Rattle.frozen_files.specs.library_files.Asked.{asked_for}
use Rattle.frozen_files.specs.library_files.Comes.{OfNames}
use Rattle.frozen_files.specs.library_files.Loads.{Loading, Loaded, Past, Unaccepted, Loads, main_name, limit_of, LoadsBy, LoadsWith}
use Rattle.frozen_files.specs.library_files.Loads as files
use Rattle.meant_files.specs.Readings.{IsReading}
use Rattle.meant_runs.specs.Units.{IsUnitFile, HasEntry, AreUnits}
use Rattle.meant_files.specs.Imported.{source_imports}
use Rattle.frozen_files.specs.source_files.Sources.{stored}
use Rattle.meant_files.specs.Sources.{HoldsSource, imports_with, with_source, LoadsSources, IsProgramOfSources}
use Rattle.meant_files.specs.Sources as sources
use Rattle.meant_runs.specs.trans_laws.trans_parts.Comparing.{FitsTree}
use Rattle.meant_files.proofs.Fitting.{same_imports}
use Rattle.meant_files.proofs.SourcesHold.{Agree, grown, fresh, there, none_yet, entry_stays}

both : {A : Type 0} (P : A → Type 0) (xs ys : List A) → AllByRecursion P xs → AllByRecursion P ys → AllByRecursion P (xs ++ ys)
both P [] ys h k = k
both P (x ∷ xs) ys h k = (h.0, both P xs ys h.1 k)

-- what the crates below say of the files of units
pub record Below : Type 0 where
  pub one_tree : (m : Module) (a b : ResolvedModule) → Resolves m a → Resolves m b → a ≡ b
  pub imports : (source : Source) (m : ResolvedModule) → Translates source m → imports_of m.code ≡ source_imports source

-- the imports of a source's file
file_imports : Below → (source : Source) (m : Module) (names : List Name) → IsUnitFile (Single source) m → Imports m names → names ≡ source_imports source
file_imports b source m names is i = by is.want is.is_module is.fits
  where
    by : (want : ResolvedModule) → IsModuleOf (Single source) want → FitsTree want.code is.tree.code → names ≡ source_imports source
    by want (translated t) fits =
        i.names_are ∙ ap (λ (r : ResolvedModule). imports_of r.code) (b.one_tree m i.tree is.tree i.resolves is.resolves)
        ∙ sym (same_imports want.code is.tree.code fits) ∙ b.imports source want t

module _ (of_sources : FileOf) (base : List ℕ) (level : ℕ) where
  -- what a name comes to among the sources, where it comes to an entry of the library
  abbrev pub SameEntry : Name → loading.Entry → Type 0
  SameEntry name entries.Absent = HoldsSource of_sources base level name None
  SameEntry name entries.Refused = ⊥
  SameEntry name (entries.Held m size) = (source : Source) × HoldsSource of_sources base level name (Some source) × IsUnitFile (Single source) m

  -- all names that an import asks for are such
  abbrev pub Asks : (Asked : Name → Type 0) → (imported : Name) → Type 0
  Asks Asked imported = AllByRecursion Asked (asked_for imported)

  -- such names are asked for, and each of them comes to its source
  pub record Follows (Asked : Name → Type 0) (Comes : OfNames) (origin : Source) : Type 0 where
    pub same : (name : Name) (entry : loading.Entry) → Asked name → Comes name (Ok entry) → SameEntry name entry
    pub by_main : AllByRecursion (Asks Asked) (source_imports origin)
    pub by_found : (name : Name) (source : Source) → Asked name → HoldsSource of_sources base level name (Some source) → AllByRecursion (Asks Asked) (source_imports source)

  -- the entries of all sources, with those that there were, agree with the library that is loaded
  pub record Whole (entries_of : List (Name × Entry)) (together found behind : List Name) (shelf : Shelf) : Type 0 where
    pub all : List (Name × Entry)
    pub loads : LoadsSources of_sources base level entries_of together found behind all
    pub agree : Agree shelf all
    pub stays : (name : Name) (entry : Entry) → entry_in entries_of name ≡ Some entry → entry_in all name ≡ Some entry

  abbrev Told : List (Name × Entry) → (together found behind : List Name) → Loading → Type 0
  Told entries_of together found behind (Loaded shelf) = Whole entries_of together found behind shelf
  Told entries_of together found behind (Past limit) = ⊤
  Told entries_of together found behind (Unaccepted refused) = ⊤

  on_next : (entries_of : List (Name × Entry)) (found behind : List Name) (name : Name) (names : List Name) (end : Loading) → found ++ behind ≡ name ∷ names → Told entries_of (asked_for name) [] names end → Told entries_of [] found behind end
  on_next entries_of found behind name names (Loaded shelf) e h = record { all = h.all; loads = sources.next entries_of found behind name names h.all e h.loads; agree = h.agree; stays = h.stays }
  on_next entries_of found behind name names (Past limit) e h = tt
  on_next entries_of found behind name names (Unaccepted refused) e h = tt

  on_known : (entries_of : List (Name × Entry)) (name : Name) (together found behind : List Name) (end : Loading) → IsSome (entry_in entries_of name) → Told entries_of together found behind end → Told entries_of (name ∷ together) found behind end
  on_known entries_of name together found behind (Loaded shelf) some h = record { all = h.all; loads = sources.known entries_of name together found behind h.all some h.loads; agree = h.agree; stays = h.stays }
  on_known entries_of name together found behind (Past limit) some h = tt
  on_known entries_of name together found behind (Unaccepted refused) some h = tt

  stays_with : (entries_of all : List (Name × Entry)) (name : Name) (source : Option Source)
      → ((x : Name) (entry : Entry) → entry_in (with_source entries_of name source) x ≡ Some entry → entry_in all x ≡ Some entry) → (x : Name) (entry : Entry) → entry_in entries_of x ≡ Some entry → entry_in all x ≡ Some entry
  stays_with entries_of all name (Some source) h x entry e = h x entry (entry_stays entries_of ((name, Runs (Single source)) ∷ []) x entry e)
  stays_with entries_of all name None h x entry e = h x entry e

  on_taken : (entries_of : List (Name × Entry)) (name : Name) (together found behind : List Name) (source : Option Source) (end : Loading) → entry_in entries_of name ≡ None → HoldsSource of_sources base level name source
      → Told (with_source entries_of name source) together (found ++ imports_with source) behind end → Told entries_of (name ∷ together) found behind end
  on_taken entries_of name together found behind source (Loaded shelf) none comes h = record {
    all = h.all;
    loads = sources.taken entries_of name together found behind source h.all none comes h.loads;
    agree = h.agree;
    stays = stays_with entries_of h.all name source h.stays;
  }
  on_taken entries_of name together found behind source (Past limit) none comes h = tt
  on_taken entries_of name together found behind source (Unaccepted refused) none comes h = tt

  module _ (Comes : OfNames) (Asked : Name → Type 0) (origin : Source) (b : Below) (f : Follows Asked Comes origin) where
    told : (shelf : Shelf) (size : ℕ) (together found behind : List Name) (end : Loading) (entries_of : List (Name × Entry)) → Loads Comes shelf size together found behind end → Agree shelf entries_of
        → AllByRecursion Asked together → AllByRecursion (Asks Asked) found → AllByRecursion (Asks Asked) behind → Told entries_of together found behind end
    told shelf size [] [] [] end entries_of (files.ends _ _) agree t k r = record { all = entries_of; loads = sources.ends entries_of; agree = agree; stays = λ name entry e. e }
    told shelf size [] found behind end entries_of (files.next _ _ _ _ name names _ e h) agree t k r =
        let left : AllByRecursion (Asks Asked) (name ∷ names) = subst (AllByRecursion (Asks Asked)) e (both (Asks Asked) found behind k r) in
        on_next entries_of found behind name names end e (told shelf size (asked_for name) [] names end entries_of h agree left.0 tt left.1)
    told shelf size (name ∷ together) found behind end entries_of (files.known _ _ _ _ _ _ _ some h) agree t k r =
        on_known entries_of name together found behind end (there shelf entries_of name agree some) (told shelf size together found behind end entries_of h agree t.1 k r)
    told shelf size (name ∷ together) found behind end entries_of (files.past _ _ _ _ _ _ entry limit none comes is) agree t k r = tt
    told shelf size (name ∷ together) found behind end entries_of (files.unaccepted _ _ _ _ _ _ refused none comes) agree t k r = tt
    told shelf size (name ∷ together) found behind end entries_of (files.taken _ _ _ _ _ _ entries.Absent imports _ none comes within inner h) agree t k r =
        let none_found : AllByRecursion (Asks Asked) imports = subst (AllByRecursion (Asks Asked)) (sym inner) tt in
        on_taken entries_of name together found behind None end (fresh shelf entries_of name agree none) (f.same name entries.Absent t.0 comes)
        (subst (λ (names : List Name). Told entries_of together (found ++ names) behind end) inner (told shelf size together (found ++ imports) behind end entries_of h agree t.1 (both (Asks Asked) found imports k none_found) r))
    told shelf size (name ∷ together) found behind end entries_of (files.taken _ _ _ _ _ _ entries.Refused imports _ none comes within inner h) agree t k r = absurd (f.same name entries.Refused t.0 comes)
    told shelf size (name ∷ together) found behind end entries_of (files.taken _ _ _ _ _ _ (entries.Held m more) imports _ none comes within inner h) agree t k r =
        let same = f.same name (entries.Held m more) t.0 comes in
        let more_of = entries_of ++ (name, Runs (Single same.0)) ∷ [] in
        let lists : imports ≡ source_imports same.0 = file_imports b same.0 m imports same.2 inner in
        let asks : AllByRecursion (Asks Asked) imports = subst (AllByRecursion (Asks Asked)) (sym lists) (f.by_found name same.0 t.0 same.1) in
        on_taken entries_of name together found behind (Some same.0) end (fresh shelf entries_of name agree none) same.1
        (subst (λ (names : List Name). Told more_of together (found ++ names) behind end) lists
        (told (with_module shelf name m) (size + more) together (found ++ imports) behind end more_of h (grown shelf entries_of name (Single same.0) m agree none same.2) t.1 (both (Asks Asked) found imports k asks) r))

    module _ (path text : List ℕ) (main : Module) (size : ℕ) (here : of_sources path ≡ Some text) (is_reading : IsReading level text (stored path) origin) (unit_is : IsUnitFile (Single origin) main) where
      abbrev first : List (Name × Entry)
      first = (codes "__main__", Runs (Single origin)) ∷ []

      from_main : (shelf : Shelf) (imports : List Name) → Imports main imports → Loads Comes (with_module no_entries main_name main) size [] imports [] (Loaded shelf)
          → (program : Program) × IsProgramOfSources of_sources base path level program × AreUnits program shelf
      from_main shelf imports i h =
          let agree : Agree (with_module no_entries main_name main) first = grown no_entries [] main_name (Single origin) main none_yet refl unit_is in
          let lists : imports ≡ source_imports origin = file_imports b origin main imports unit_is i in
          let asks : AllByRecursion (Asks Asked) imports = subst (AllByRecursion (Asks Asked)) (sym lists) f.by_main in
          let whole : Whole first [] (source_imports origin) [] shelf =
          subst (λ (names : List Name). Whole first [] names [] shelf) lists
          (told (with_module no_entries main_name main) size [] imports [] (Loaded shelf) first h agree tt asks tt) in (
            record { main = Single origin; main_name = codes "__main__"; entries = whole.all },
            record {
              text = text;
              there = here;
              main = origin;
              is_reading = is_reading;
              main_is = refl;
              main_name_is = refl;
              loads = whole.loads;
            },
            record {
              main = subst (HasEntry shelf (codes "__main__")) (whole.stays (codes "__main__") (Runs (Single origin)) refl) (whole.agree (codes "__main__"));
              entries = λ name other. whole.agree name;
            },
          )

      by_limit : (limit : Option Limit) (shelf : Shelf) → LoadsBy limit Comes main size (Loaded shelf)
          → (program : Program) × IsProgramOfSources of_sources base path level program × AreUnits program shelf
      by_limit (Some limit) shelf h = absurd cc
      by_limit None shelf h = from_main shelf h.0 h.1 h.2

      pub has_units : (shelf : Shelf) → LoadsWith Comes main size (Loaded shelf)
          → (program : Program) × IsProgramOfSources of_sources base path level program × AreUnits program shelf
      has_units shelf h = by_limit (limit_of no_entries 0 main_name (entries.Held main size)) shelf h
