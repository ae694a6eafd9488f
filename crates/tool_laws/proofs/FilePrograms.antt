-- The program of files, and the libraries that hold it.
use Rattle.std.proofs.Common.{◌≡◌, ◌⊎◌, inl, inr, ℕ, Bool, true, false, List, [], ◌∷◌, ◌++◌, Option, Some, None, codes, refl, sym, ap, subst, ◌∙◌, if◌then◌else◌, ◌||◌}
use Rattle.std.specs.Prelude.{IsSome, Ok, is_some}
use Rattle.std.specs.List.{AllByRecursion, list_any}
use Rattle.std.specs.Str.{bytes_eq}
use Rattle.std.proofs.lemmas.List.Folds.{list_any-append}
use Rattle.mpy_io.specs.Files.{FileOf}
use Rattle.mpy_tree.specs.Raw.{Module}
use Rattle.mpy_tree.specs.File.{IsFile}
use Rattle.bc_library.specs.Shelf.{Shelf, member_of, names, no_entries}
use Rattle.py_meaning.specs.Tree.{Name}
use Rattle.py_meaning.specs.Program.{Unit, Entry, Runs, Refused, Program, entry_in}
use Rattle.library_files.specs.declared.entry.Entry.TheVariants as held
use Rattle.library_files.specs.declared.limit.Limit.{Limit}
use Rattle.library_files.specs.pkg_paths.Finds.{NamedFile, first_there}
use Rattle.library_files.specs.pkg_paths.Paths.{package_file, plain_file}
use Rattle.library_files.specs.Comes.{ComesTo, ending}
use Rattle.library_files.specs.Loads.{Loaded, LoadsBy, limit_of, main_name}
use Rattle.meant_files.specs.Built.{IsBuilt, IsBuiltEntry, IsBuiltProgram}
use Rattle.meant_commands.specs.run_commands.Base.{base_of}
use Rattle.meant_commands.specs.run_commands.declared.ready.Ready.{Ready}
use Rattle.meant_commands.specs.run_commands.Ready.{RunLibrary, begins_image, not_read, of_file, of_image}
use Rattle.meant_commands.specs.run_commands.Run.{LoadsOf}
use Rattle.meant_commands.specs.Made.{HoldsMade}
use Rattle.meant_commands.specs.Meant.{HoldsBuilt}
use Rattle.tool_laws.specs.AskedFor.{unit_imports, file_of, HoldsEntry, IsAskedFor}
use Rattle.tool_laws.specs.Programs.{AreProgramFiles, IsProgramOfFiles}
use Rattle.tool_laws.proofs.UnitImports.{Below, file_imports}
use Rattle.tool_laws.proofs.Members.{eq_self, every_name, has, is_member, no_member, same_name}
use Rattle.tool_laws.proofs.Loading.{Fine, Sound, complete, never_main, sound}

by_some : {a b : List ℕ} → Some a ≡ Some b → a ≡ b
by_some e = cc

-- files that were made
-- ====================

pub of_package : (files : FileOf) (base : List ℕ) (x : Name) (unit : Unit)
    → HoldsMade files (package_file base x ending) unit → HoldsEntry files base x (Some (Runs unit))
of_package files base x unit h =
    let path = package_file base x ending in
    let behind : Option NamedFile = first_there files (plain_file base x ending ∷ []) in
    ((path, h.bytes), ap (λ (o : Option (List ℕ)). elim o [ Some bytes ↦ Some (path, bytes) | None ↦ behind ]) h.there, h.built)

pub of_plain : (files : FileOf) (base : List ℕ) (x : Name) (unit : Unit) → files (package_file base x ending) ≡ None
    → HoldsMade files (plain_file base x ending) unit → HoldsEntry files base x (Some (Runs unit))
of_plain files base x unit none h =
    let first = package_file base x ending in
    let path = plain_file base x ending in
    let behind : Option NamedFile = first_there files (path ∷ []) in (
      (path, h.bytes),
      ap (λ (o : Option (List ℕ)). elim o [ Some bytes ↦ Some (first, bytes) | None ↦ behind ]) none
          ∙ ap (λ (o : Option (List ℕ)). elim o [ Some bytes ↦ Some (path, bytes) | None ↦ None ]) h.there,
      h.built,
    )

-- programs of files
-- =================

module _ (b : Below) (files : FileOf) (name : List ℕ) (main : Unit) (are : AreProgramFiles files name main) where
  abbrev base : List ℕ
  base = base_of name

  -- the library that is loaded has the names that are asked for and have files, and no others
  pub record HasAll (shelf : Shelf) : Type 0 where
    pub only : Sound b files base main shelf
    pub all : (x : Name) (file : NamedFile) → IsAskedFor files base main x → file_of files base x ≡ Some file
        → has shelf x ≡ true

  has_by : (shelf : Shelf) (m : Module) (size : ℕ) → IsFile are.made.bytes m → (limit : Option Limit)
      → LoadsBy limit (ComesTo files base) m size (Loaded shelf) → HasAll shelf
  has_by shelf m size is (Some limit) h = absurd cc
  has_by shelf m size is None h =
      let same : h.0 ≡ unit_imports main = file_imports b main are.made.bytes m h.0 are.made.built is h.1 in record {
        only = sound b files base main are.each m size h.0 shelf same h.2;
        all = complete b files base main m size h.0 shelf same h.2;
      }

  pub has_all : (shelf : Shelf) → LoadsOf (Some files) name (Loaded shelf) → HasAll shelf
  has_all shelf h =
      let same : h.holds.bytes ≡ are.made.bytes = by_some (sym h.holds.holds ∙ are.made.there) in
      has_by shelf h.main h.size (subst (λ (bytes : List ℕ). IsFile bytes h.main) same h.holds.file) (limit_of no_entries 0 main_name (held.Held h.main h.size)) h.loads

  -- a program of them
  -- =================

  -- what a name of the library is in a program
  abbrev IsListed : Name → Type 0
  IsListed x =
      (x ≡ main_name) ⊎ (IsAskedFor files base main x × ((entry : Entry) × HoldsEntry files base x (Some entry)))

  not_none : (x : Name) (file : NamedFile) → file_of files base x ≡ Some file → file_of files base x ≡ None → ⊥
  not_none x file is none = let wrong : Some file ≡ None = sym is ∙ none in cc

  -- what has an entry has a file
  its_file : (x : Name) (entry : Entry) → HoldsEntry files base x (Some entry)
      → (file : NamedFile) × (file_of files base x ≡ Some file)
  its_file x (Runs unit) h = (h.0, h.1)
  its_file x Refused h = (h.0, h.1)

  some_entry : (x : Name) (file : NamedFile) → file_of files base x ≡ Some file → (entry : Option Entry)
      → HoldsEntry files base x entry → (e : Entry) × HoldsEntry files base x (Some e)
  some_entry x file is (Some entry) h = (entry, h)
  some_entry x file is None none = absurd (not_none x file is none)

  listed : (shelf : Shelf) → HasAll shelf → (x : Name) → has shelf x ≡ true → IsListed x
  listed shelf h x e = by (h.only x e)
    where
      by : Fine b files base main x → IsListed x
      by (inl is) = inl is
      by (inr fine) = let entry = are.each x fine.0 in inr (fine.0, some_entry x fine.1.0 fine.1.1 entry.0 entry.1)

  -- the entries of such names, without the main module's
  abbrev with_entry : (x : Name) → IsListed x → List (Name × Entry) → List (Name × Entry)
  with_entry x (inl is) others = others
  with_entry x (inr k) others = (x, k.1.0) ∷ others

  abbrev entries_of : (list : List Name) → AllByRecursion IsListed list → List (Name × Entry)
  entries_of [] h = []
  entries_of (x ∷ list) h = with_entry x h.0 (entries_of list h.1)

  abbrev IsEntry : Name → Entry → Type 0
  IsEntry x entry = IsAskedFor files base main x × HoldsEntry files base x (Some entry)

  -- an entry is of a name that is asked for, and is what its file is
  of_entry : (list : List Name) (h : AllByRecursion IsListed list) (x : Name) (entry : Entry)
      → entry_in (entries_of list h) x ≡ Some entry → IsEntry x entry
  of_entry [] h x entry e = absurd (let wrong : None ≡ Some entry = e in cc)
  of_entry (y ∷ list) h x entry e = by h.0 e (of_entry list h.1 x entry)
    where
      same : (one other : Entry) → Some one ≡ Some other → one ≡ other
      same one other is = cc

      at : (k : IsAskedFor files base main y × ((its : Entry) × HoldsEntry files base y (Some its))) (c : Bool)
          → bytes_eq y x ≡ c
          → (if c then Some k.1.0 else entry_in (entries_of list h.1) x) ≡ Some entry
          → (entry_in (entries_of list h.1) x ≡ Some entry → IsEntry x entry) → IsEntry x entry
      at k true is f more =
          subst (λ (z : Name). IsEntry z entry) (same_name y x is) (k.0, subst (λ (i : Entry). HoldsEntry files base y (Some i)) (same k.1.0 entry f) k.1.1)
      at k false is f more = more f

      by : (k : IsListed y) → entry_in (with_entry y k (entries_of list h.1)) x ≡ Some entry
          → (entry_in (entries_of list h.1) x ≡ Some entry → IsEntry x entry) → IsEntry x entry
      by (inl is) f more = more f
      by (inr k) f more = at k (bytes_eq y x) refl f more

  -- each name of the list but the main module's has an entry
  has_entry : (list : List Name) (h : AllByRecursion IsListed list) (x : Name) → (x ≡ main_name → ⊥)
      → list_any (bytes_eq x) list ≡ true → IsSome (entry_in (entries_of list h) x)
  has_entry [] h x other e = absurd (let wrong : false ≡ true = e in cc)
  has_entry (y ∷ list) h x other e = by h.0 (bytes_eq x y) refl e (has_entry list h.1 x other)
    where
      found : (entry : Option Entry) (others : Option Entry) (c : Bool) → bytes_eq y x ≡ c → c ≡ true → IsSome entry
          → IsSome (if c then entry else others)
      found entry others true is right some = some
      found entry others false is right some = absurd (let wrong : false ≡ true = right in cc)

      kept : (entry : Option Entry) (others : Option Entry) (c : Bool) → IsSome entry → IsSome others
          → IsSome (if c then entry else others)
      kept entry others true some more = some
      kept entry others false some more = more

      by : (k : IsListed y) (c : Bool) → bytes_eq x y ≡ c → (c || list_any (bytes_eq x) list) ≡ true
          → (list_any (bytes_eq x) list ≡ true → IsSome (entry_in (entries_of list h.1) x))
          → IsSome (entry_in (with_entry y k (entries_of list h.1)) x)
      by (inl is) true same f more = absurd (other (same_name x y same ∙ is))
      by (inl is) false same f more = more f
      by (inr k) true same f more =
          found (Some k.1.0) (entry_in (entries_of list h.1) x) (bytes_eq y x) refl (ap (λ (z : Name). bytes_eq y z) (same_name x y same) ∙ eq_self y) refl
      by (inr k) false same f more = kept (Some k.1.0) (entry_in (entries_of list h.1) x) (bytes_eq y x) refl (more f)

  module _ (shelf : Shelf) (h : HasAll shelf) where
    abbrev all_names : List Name
    all_names = names shelf ++ shelf.refused

    by_both : (x : Name) → has shelf x ≡ list_any (bytes_eq x) all_names
    by_both x = sym (list_any-append (bytes_eq x) (names shelf) shelf.refused)

    are_listed : AllByRecursion IsListed all_names
    are_listed = every_name IsListed all_names (λ x e. listed shelf h x (by_both x ∙ e))

    abbrev its_entries : List (Name × Entry)
    its_entries = entries_of all_names are_listed

    program_entry : (x : Name) (asked : IsAskedFor files base main x) (entry : Option Entry)
        → HoldsEntry files base x entry → (found : Option Entry) → entry_in its_entries x ≡ found
        → HoldsEntry files base x found
    program_entry x asked entry holds (Some found) is = (of_entry all_names are_listed x found is).1
    program_entry x asked None none None is = none
    program_entry x asked (Some entry) holds None is =
        let file = its_file x entry holds in
        let there = sym (by_both x) ∙ h.all x file.0 asked file.1 in
        let some : is_some (entry_in its_entries x) ≡ true = has_entry all_names are_listed x (never_main files base main x asked) there in
        let none : is_some (entry_in its_entries x) ≡ false = ap is_some is in
        absurd cc

    asked_entry : (x : Name) (found : Option Entry) → entry_in its_entries x ≡ found → IsSome found
        → IsAskedFor files base main x
    asked_entry x (Some found) is some = (of_entry all_names are_listed x found is).0
    asked_entry x None is some = absurd (let wrong : false ≡ true = some in cc)

    its_program : (program : Program) × (program.main ≡ main) × IsProgramOfFiles files name program
    its_program = (
      record { main = main; main_name = codes "__main__"; entries = its_entries },
      refl,
      record {
        main = are.made;
        main_name_is = refl;
        entries = λ x asked. let k = are.each x asked in program_entry x asked k.0 k.1 (entry_in its_entries x) refl;
        no_more = λ x other some. asked_entry x (entry_in its_entries x) refl some;
      },
    )

  -- where their library is loaded, they have a program
  pub loaded_program : (shelf : Shelf) → LoadsOf (Some files) name (Loaded shelf)
      → (program : Program) × (program.main ≡ main) × IsProgramOfFiles files name program
  loaded_program shelf h = its_program shelf (has_all shelf h)

  -- a file isn't an image
  pub never_image : (bytes : List ℕ) → files name ≡ Some bytes → begins_image bytes ≡ true → ⊥
  never_image bytes there begins =
      let same : are.made.bytes ≡ bytes = by_some (sym are.made.there ∙ there) in
      let is = b.file main bytes (subst (IsBuilt main) same are.made.built) in
      begins_other bytes _ is.1.spelling.text_is begins
    where
      begins_other : (bytes rest : List ℕ) → bytes ≡ 0x4d ∷ 6 ∷ rest → begins_image bytes ≡ true → ⊥
      begins_other bytes rest e h =
          let same : begins_image (0x4d ∷ 6 ∷ rest) ≡ true = subst (λ (z : List ℕ). begins_image z ≡ true) e h in cc

  pub run_program : (below : Shelf) (start : List ℕ) (ready : Ready)
      → RunLibrary below start (Some files) name (Ok ready)
      → (program : Program) × (program.main ≡ main) × IsProgramOfFiles files name program
  run_program below start ready (not_read ending h e) = absurd cc
  run_program below start ready (of_file bytes there other h) = loaded_program ready.library h.0
  run_program below start ready (of_image bytes there short begins h) = absurd (never_image bytes there begins)

-- libraries that hold it
-- ======================

module _ (b : Below) (files : FileOf) (name : List ℕ) (program : Program) (is : IsProgramOfFiles files name program) where
  its_files : AreProgramFiles files name program.main
  its_files = record { made = is.main; each = λ x asked. (entry_in program.entries x, is.entries x asked) }

  module _ (shelf : Shelf) (h : HasAll b files name program.main its_files shelf) where
    built_entry : (x : Name) (file : NamedFile) → file_of files (base_of name) x ≡ Some file → (entry : Option Entry)
        → HoldsEntry files (base_of name) x entry → IsBuiltEntry entry (file_of files (base_of name) x)
    built_entry x file there (Some (Runs unit)) holds = subst (IsBuiltEntry (Some (Runs unit))) (sym holds.1) holds.2
    built_entry x file there (Some Refused) holds = subst (IsBuiltEntry (Some Refused)) (sym holds.1) holds.2
    built_entry x file there None none = absurd (let wrong : Some file ≡ None = sym there ∙ none in cc)

    entry_of : (x : Name) → (x ≡ main_name → ⊥) → Fine b files (base_of name) program.main x
        → IsBuiltEntry (entry_in program.entries x) (file_of files (base_of name) x)
    entry_of x other (inl is_main) = absurd (other is_main)
    entry_of x other (inr fine) = built_entry x fine.1.0 fine.1.1 (entry_in program.entries x) (is.entries x fine.0)

    none_more : (x : Name) → (x ≡ main_name → ⊥) → member_of shelf x ≡ None → (entry : Option Entry)
        → entry_in program.entries x ≡ entry → entry ≡ None
    none_more x other none None e = refl
    none_more x other none (Some entry) e =
        let asked = is.no_more x other (ap is_some e) in
        let file = its_file b files name program.main its_files x entry (subst (HoldsEntry files (base_of name) x) e (is.entries x asked)) in
        absurd (no_member shelf x none (h.all x file.0 asked file.1))

    built_program : IsBuiltProgram files (base_of name) is.main.bytes shelf program
    built_program = record {
      main = is.main.built;
      main_name_is = is.main_name_is;
      entries = λ x other some. entry_of x other (h.only x (sym (is_member shelf x) ∙ some));
      no_more = λ x other none. none_more x other none (entry_in program.entries x) refl;
    }

  pub holds_built : HoldsBuilt files name program
  holds_built = record {
    bytes = is.main.bytes;
    there = is.main.there;
    main = is.main.built;
    built = λ shelf h. built_program shelf (has_all b files name program.main its_files shelf h);
  }
