-- A library that is loaded has the names that are asked for and have files, and no others.
use Rattle.std.proofs.Common.{◌≡◌, ◌⊎◌, inl, inr, ℕ, ◌+◌, Bool, true, false, List, [], ◌∷◌, ◌++◌, Option, Some, None, refl, sym, ap, subst, ◌∙◌}
use Rattle.std.specs.Prelude.{⊤, Contains, Ok}
use Rattle.std.specs.List.{AllByRecursion}
use Rattle.std.specs.Str.{bytes_eq}
use Rattle.std.proofs.lemmas.List.Elements.{All-contains, All-contains_itself, All-from_recursion, recursion_from_All}
use Rattle.mpy_io.specs.Files.{FileOf}
use Rattle.mpy_tree.specs.Raw.{Module}
use Rattle.bc_library.specs.Shelf.{Shelf, member_of, no_entries, with_module}
use Rattle.py_meaning.specs.Tree.{Name}
use Rattle.py_meaning.specs.Program.{Unit, Entry, Runs, Refused}
use Rattle.library_files.specs.declared.entry.Entry.TheVariants as entries
use Rattle.library_files.specs.pkg_paths.Finds.{NamedFile}
use Rattle.library_files.specs.Imports.{Imports}
use Rattle.library_files.specs.Asked.{asked_for}
use Rattle.library_files.specs.Comes.{ComesTo, FileComesTo, IsVerifiedFile, ModuleFiles}
use Rattle.library_files.specs.Loads.{Loading, Loaded, Past, Unaccepted, Loads, ends, next, known, unaccepted, past, taken, main_name, with_entry}
use Rattle.meant_files.specs.Built.{IsBuilt}
use Rattle.tool_laws.specs.AskedFor.{unit_imports, AsksFor, file_of, HoldsEntry, IsAskedFor, by_main, by_file}
use Rattle.tool_laws.proofs.UnitImports.{Below, file_imports}
use Rattle.tool_laws.proofs.Members.{apart, has, here, is_member, main_alone, module_grows, no_member, old_or_new, refused_grows, same_name, still, Grows}

-- lists
-- =====

module _ {A : Type 0} (P : A → Type 0) where
  pub each : (xs : List A) → ((x : A) → Contains xs x → P x) → AllByRecursion P xs
  each xs h = recursion_from_All P xs (λ k d lt. h _ (All-contains_itself xs k d lt))

  at_one : (xs : List A) (x : A) → AllByRecursion P xs → Contains xs x → P x
  at_one xs x h c = All-contains P xs x (All-from_recursion P xs h) c

  pub both : (xs ys : List A) → AllByRecursion P xs → AllByRecursion P ys → AllByRecursion P (xs ++ ys)
  both [] ys h k = k
  both (x ∷ xs) ys h k = (h.0, both xs ys h.1 k)

  front : (xs ys : List A) → AllByRecursion P (xs ++ ys) → AllByRecursion P xs
  front [] ys h = tt
  front (x ∷ xs) ys h = (h.0, front xs ys h.1)

  back : (xs ys : List A) → AllByRecursion P (xs ++ ys) → AllByRecursion P ys
  back [] ys h = h
  back (x ∷ xs) ys h = back xs ys h.1

-- each name that the import asks for is such
abbrev pub OfImport : (P : Name → Type 0) → (imported : Name) → Type 0
OfImport P imported = AllByRecursion P (asked_for imported)

-- and so of each of these imports
abbrev pub Asks : (P : Name → Type 0) → (imports : List Name) → Type 0
Asks P imports = AllByRecursion (OfImport P) imports

-- the main module's name isn't asked for
pub never_main : (files : FileOf) (base : List ℕ) (main : Unit) (x : Name) → IsAskedFor files base main x
    → x ≡ main_name → ⊥
never_main files base main x (by_main _ a) = a.0
never_main files base main x (by_file asking _ unit asked holds a) = a.0

module _ (b : Below) (files : FileOf) (base : List ℕ) where
  -- what a name comes to
  -- ====================

  abbrev pub HasFile : Name → Type 0
  HasFile x = (file : NamedFile) × (file_of files base x ≡ Some file)

  one_file : (x : Name) (f g : NamedFile) → file_of files base x ≡ Some f → file_of files base x ≡ Some g → f ≡ g
  one_file x f g is other = by (sym is ∙ other)
    where
      by : Some f ≡ Some g → f ≡ g
      by e = cc

  not_none : (x : Name) (f : NamedFile) → file_of files base x ≡ Some f → file_of files base x ≡ None → ⊥
  not_none x f is none = let wrong : Some f ≡ None = sym is ∙ none in cc

  held_file : (x : Name) (m : Module) (size : ℕ) → ComesTo files base x (Ok (entries.Held m size))
      → (file : NamedFile) × (file_of files base x ≡ Some file) × IsVerifiedFile file.1 m
  held_file x m size h = by (file_of files base x) refl h
    where
      by : (o : Option NamedFile) → file_of files base x ≡ o → FileComesTo ModuleFiles o (Ok (entries.Held m size))
          → (file : NamedFile) × (file_of files base x ≡ Some file) × IsVerifiedFile file.1 m
      by (Some file) e k = (file, e, k.0)
      by None e k = absurd (let wrong : entries.Held m size ≡ entries.Absent = k in cc)

  refused_file : (x : Name) → ComesTo files base x (Ok entries.Refused)
      → (file : NamedFile) × (file_of files base x ≡ Some file) × ((m : Module) → IsVerifiedFile file.1 m → ⊥)
  refused_file x h = by (file_of files base x) refl h
    where
      by : (o : Option NamedFile) → file_of files base x ≡ o → FileComesTo ModuleFiles o (Ok entries.Refused)
          → (file : NamedFile) × (file_of files base x ≡ Some file) × ((m : Module) → IsVerifiedFile file.1 m → ⊥)
      by (Some file) e k = (file, e, k)
      by None e k = absurd (let wrong : entries.Refused ≡ entries.Absent = k in cc)

  absent_file : (x : Name) → ComesTo files base x (Ok entries.Absent) → file_of files base x ≡ None
  absent_file x h = by (file_of files base x) refl h
    where
      by : (o : Option NamedFile) → file_of files base x ≡ o → FileComesTo ModuleFiles o (Ok entries.Absent)
          → file_of files base x ≡ None
      by (Some file) e k = absurd k
      by None e k = e

  -- a module that a name comes to imports what a unit does that the name's file is made of
  held_imports : (x : Name) (m : Module) (size : ℕ) (names : List Name) (unit : Unit)
      → ComesTo files base x (Ok (entries.Held m size)) → HoldsEntry files base x (Some (Runs unit))
      → Imports m names → names ≡ unit_imports unit
  held_imports x m size names unit comes holds i =
      let held = held_file x m size comes in
      let same : IsBuilt unit held.0.1 = subst (λ (f : NamedFile). IsBuilt unit f.1) (one_file x holds.0 held.0 holds.1 held.1) holds.2 in
      file_imports b unit held.0.1 m names same held.2.file i

  -- such a file isn't refused
  never_refused : (x : Name) (unit : Unit) → ComesTo files base x (Ok entries.Refused)
      → HoldsEntry files base x (Some (Runs unit)) → ⊥
  never_refused x unit comes holds =
      let refused = refused_file x comes in
      let same : IsBuilt unit refused.0.1 = subst (λ (f : NamedFile). IsBuilt unit f.1) (one_file x holds.0 refused.0 holds.1 refused.1) holds.2 in
      let there = b.file unit refused.0.1 same in
      refused.2 there.0 (record { file = there.1; verified = b.verified unit refused.0.1 there.0 same there.1 })

  module _ (main : Unit) where
    -- a library has only what is asked for
    -- ====================================

    abbrev Asked : Name → Type 0
    Asked x = (x ≡ main_name) ⊎ IsAskedFor files base main x

    -- the main module's name, or one that is asked for and has a file
    abbrev pub Fine : Name → Type 0
    Fine x = (x ≡ main_name) ⊎ (IsAskedFor files base main x × HasFile x)

    abbrev pub Sound : Shelf → Type 0
    Sound shelf = (x : Name) → has shelf x ≡ true → Fine x

    asked_by : (unit : Unit) → ((x : Name) → AsksFor unit x → IsAskedFor files base main x)
        → Asks Asked (unit_imports unit)
    asked_by unit h =
        each (OfImport Asked) (unit_imports unit) (λ imported c. each Asked (asked_for imported) (λ x d. by imported x c d (bytes_eq x main_name) refl))
      where
        by : (imported x : Name) → Contains (unit_imports unit) imported → Contains (asked_for imported) x → (e : Bool)
            → bytes_eq x main_name ≡ e → Asked x
        by imported x c d true e = inl (same_name x main_name e)
        by imported x c d false e = inr (h x (apart x main_name e, (imported, c, d)))

    -- the name of a further entry isn't the main module's
    other_name : (shelf : Shelf) (name : Name) → has shelf main_name ≡ true → member_of shelf name ≡ None → Asked name
        → IsAskedFor files base main name
    other_name shelf name there none (inl same) = absurd (no_member shelf name none (ap (has shelf) same ∙ there))
    other_name shelf name there none (inr asked) = asked

    grown : (old new : Shelf) (name : Name) → Grows old new name → Sound old → IsAskedFor files base main name
        → HasFile name → Sound new
    grown old new name g sound asked file x e = by (old_or_new old new name x g e)
      where
        by : (has old x ≡ true) ⊎ (x ≡ name) → Fine x
        by (inl was) = sound x was
        by (inr is) = subst Fine (sym is) (inr (asked, file))

    module _ (fine : (x : Name) → IsAskedFor files base main x → (entry : Option Entry) × HoldsEntry files base x entry) where
      imports_asked : (x : Name) (m : Module) (size : ℕ) (names : List Name) → IsAskedFor files base main x
          → ComesTo files base x (Ok (entries.Held m size)) → Imports m names → Asks Asked names
      imports_asked x m size names asked comes i = by (fine x asked).0 (fine x asked).1
        where
          by : (entry : Option Entry) → HoldsEntry files base x entry → Asks Asked names
          by (Some (Runs unit)) holds =
              subst (Asks Asked) (sym (held_imports x m size names unit comes holds i)) (asked_by unit (λ y a. by_file x y unit asked holds a))
          by (Some Refused) holds =
              let held = held_file x m size comes in
              absurd (holds.2 m (subst (λ (f : NamedFile). IsVerifiedFile f.1 m) (one_file x held.0 holds.0 held.1 holds.1) held.2))
          by None none = let held = held_file x m size comes in absurd (not_none x held.0 held.1 none)

      abbrev SoundEnd : Loading → Type 0
      SoundEnd (Loaded shelf) = Sound shelf
      SoundEnd (Past limit) = ⊤
      SoundEnd (Unaccepted source) = ⊤

      sound_end : (shelf : Shelf) (size : ℕ) (together found behind : List Name) (end : Loading)
          → Loads (ComesTo files base) shelf size together found behind end → has shelf main_name ≡ true → Sound shelf
          → AllByRecursion Asked together → Asks Asked found → Asks Asked behind → SoundEnd end
      sound_end shelf size [] [] [] end (ends _ _) there sound t f r = sound
      sound_end shelf size [] found behind end (next _ _ _ _ name names _ e h) there sound t f r =
          let left : Asks Asked (name ∷ names) = subst (Asks Asked) e (both (OfImport Asked) found behind f r) in
          sound_end shelf size (asked_for name) [] names end h there sound left.0 tt left.1
      sound_end shelf size (name ∷ together) found behind end (known _ _ _ _ _ _ _ some h) there sound t f r =
          sound_end shelf size together found behind end h there sound t.1 f r
      sound_end shelf size (name ∷ together) found behind end (unaccepted _ _ _ _ _ _ source none comes) there sound t f r =
          tt
      sound_end shelf size (name ∷ together) found behind end (past _ _ _ _ _ _ entry limit none comes is) there sound t f r =
          tt
      sound_end shelf size (name ∷ together) found behind end (taken _ _ _ _ _ _ entries.Absent imports _ none comes within inner h) there sound t f r =
          sound_end shelf size together (found ++ imports) behind end h there sound t.1 (both (OfImport Asked) found imports f (subst (Asks Asked) (sym inner) tt)) r
      sound_end shelf size (name ∷ together) found behind end (taken _ _ _ _ _ _ entries.Refused imports _ none comes within inner h) there sound t f r =
          let asked = other_name shelf name there none t.0 in
          let refused = refused_file name comes in
          let g = refused_grows shelf name in
          sound_end (with_entry shelf name entries.Refused) size together (found ++ imports) behind end h (still shelf (with_entry shelf name entries.Refused) name main_name g there)
          (grown shelf (with_entry shelf name entries.Refused) name g sound asked (refused.0, refused.1)) t.1
          (both (OfImport Asked) found imports f (subst (Asks Asked) (sym inner) tt)) r
      sound_end shelf size (name ∷ together) found behind end (taken _ _ _ _ _ _ (entries.Held m more) imports _ none comes within inner h) there sound t f r =
          let asked = other_name shelf name there none t.0 in
          let held = held_file name m more comes in
          let g = module_grows shelf name m in
          sound_end (with_module shelf name m) (size + more) together (found ++ imports) behind end h (still shelf (with_module shelf name m) name main_name g there)
          (grown shelf (with_module shelf name m) name g sound asked (held.0, held.1)) t.1
          (both (OfImport Asked) found imports f (imports_asked name m more imports asked comes inner)) r

      pub sound : (m : Module) (size : ℕ) (imports : List Name) (shelf : Shelf) → imports ≡ unit_imports main
          → Loads (ComesTo files base) (with_module no_entries main_name m) size [] imports [] (Loaded shelf)
          → Sound shelf
      sound m size imports shelf same h =
          let first = with_module no_entries main_name m in
          sound_end first size [] imports [] (Loaded shelf) h (here no_entries first main_name (module_grows no_entries main_name m)) (λ x e. inl (main_alone main_name m x e)) tt
          (subst (Asks Asked) (sym same) (asked_by main (λ x a. by_main x a))) tt

    -- and all of it
    -- =============

    module _ (last : Shelf) where
      -- the library has the name, or it has no file
      abbrev Settled : Name → Type 0
      Settled x = (has last x ≡ true) ⊎ (file_of files base x ≡ None)

      -- what a unit asks for that the name's file is made of is settled
      abbrev IsDone : Name → Type 0
      IsDone x =
          (x ≡ main_name → ⊥) → (unit : Unit) → HoldsEntry files base x (Some (Runs unit)) → Asks Settled (unit_imports unit)

    -- the library that is loaded from this one on
    record Closes (shelf : Shelf) (together found behind : List Name) (last : Shelf) : Type 0 where
      keeps : (x : Name) → has shelf x ≡ true → has last x ≡ true
      of_together : AllByRecursion (Settled last) together
      of_found : Asks (Settled last) found
      of_behind : Asks (Settled last) behind
      done : ((x : Name) → has shelf x ≡ true → IsDone last x) → (x : Name) → has last x ≡ true → IsDone last x

    abbrev ClosesAt : (shelf : Shelf) → (together found behind : List Name) → Loading → Type 0
    ClosesAt shelf together found behind (Loaded last) = Closes shelf together found behind last
    ClosesAt shelf together found behind (Past limit) = ⊤
    ClosesAt shelf together found behind (Unaccepted source) = ⊤

    on_next : (shelf : Shelf) (found behind : List Name) (name : Name) (names : List Name) (end : Loading)
        → found ++ behind ≡ name ∷ names → ClosesAt shelf (asked_for name) [] names end
        → ClosesAt shelf [] found behind end
    on_next shelf found behind name names (Loaded last) e h =
        let all : Asks (Settled last) (found ++ behind) = subst (Asks (Settled last)) (sym e) (h.of_together, h.of_behind) in
        record { keeps = h.keeps; of_together = tt; of_found = front (OfImport (Settled last)) found behind all; of_behind = back (OfImport (Settled last)) found behind all; done = h.done }
    on_next shelf found behind name names (Past limit) e h = tt
    on_next shelf found behind name names (Unaccepted source) e h = tt

    on_known : (shelf : Shelf) (name : Name) (together found behind : List Name) (end : Loading) → has shelf name ≡ true
        → ClosesAt shelf together found behind end → ClosesAt shelf (name ∷ together) found behind end
    on_known shelf name together found behind (Loaded last) e h =
        record { keeps = h.keeps; of_together = (inl (h.keeps name e), h.of_together); of_found = h.of_found; of_behind = h.of_behind; done = h.done }
    on_known shelf name together found behind (Past limit) e h = tt
    on_known shelf name together found behind (Unaccepted source) e h = tt

    on_absent : (shelf : Shelf) (name : Name) (together found imports behind : List Name) (end : Loading)
        → file_of files base name ≡ None → ClosesAt shelf together (found ++ imports) behind end
        → ClosesAt shelf (name ∷ together) found behind end
    on_absent shelf name together found imports behind (Loaded last) none h = record {
      keeps = h.keeps;
      of_together = (inr none, h.of_together);
      of_found = front (OfImport (Settled last)) found imports h.of_found;
      of_behind = h.of_behind;
      done = h.done;
    }
    on_absent shelf name together found imports behind (Past limit) none h = tt
    on_absent shelf name together found imports behind (Unaccepted source) none h = tt

    -- a further name, whose file, where it is made of a unit, imports these
    on_grown : (shelf more : Shelf) (name : Name) (together found imports behind : List Name) (end : Loading)
        → Grows shelf more name
        → ((unit : Unit) → HoldsEntry files base name (Some (Runs unit)) → imports ≡ unit_imports unit)
        → ClosesAt more together (found ++ imports) behind end → ClosesAt shelf (name ∷ together) found behind end
    on_grown shelf more name together found imports behind (Loaded last) g same h = record {
      keeps = λ x e. h.keeps x (still shelf more name x g e);
      of_together = (inl (h.keeps name (here shelf more name g)), h.of_together);
      of_found = front (OfImport (Settled last)) found imports h.of_found;
      of_behind = h.of_behind;
      done = λ were. h.done (λ x e. by were x (old_or_new shelf more name x g e));
    }
      where
        new_done : IsDone last name
        new_done other unit holds =
            subst (Asks (Settled last)) (same unit holds) (back (OfImport (Settled last)) found imports h.of_found)

        by : ((x : Name) → has shelf x ≡ true → IsDone last x) → (x : Name) → (has shelf x ≡ true) ⊎ (x ≡ name)
            → IsDone last x
        by were x (inl was) = were x was
        by were x (inr is) = subst (IsDone last) (sym is) new_done
    on_grown shelf more name together found imports behind (Past limit) g same h = tt
    on_grown shelf more name together found imports behind (Unaccepted source) g same h = tt

    closes : (shelf : Shelf) (size : ℕ) (together found behind : List Name) (end : Loading)
        → Loads (ComesTo files base) shelf size together found behind end → ClosesAt shelf together found behind end
    closes shelf size [] [] [] end (ends _ _) =
        record { keeps = λ x e. e; of_together = tt; of_found = tt; of_behind = tt; done = λ were. were }
    closes shelf size [] found behind end (next _ _ _ _ name names _ e h) =
        on_next shelf found behind name names end e (closes shelf size (asked_for name) [] names end h)
    closes shelf size (name ∷ together) found behind end (known _ _ _ _ _ _ _ some h) =
        on_known shelf name together found behind end (sym (is_member shelf name) ∙ some) (closes shelf size together found behind end h)
    closes shelf size (name ∷ together) found behind end (unaccepted _ _ _ _ _ _ source none comes) = tt
    closes shelf size (name ∷ together) found behind end (past _ _ _ _ _ _ entry limit none comes is) = tt
    closes shelf size (name ∷ together) found behind end (taken _ _ _ _ _ _ entries.Absent imports _ none comes within inner h) =
        on_absent shelf name together found imports behind end (absent_file name comes) (closes shelf size together (found ++ imports) behind end h)
    closes shelf size (name ∷ together) found behind end (taken _ _ _ _ _ _ entries.Refused imports _ none comes within inner h) =
        let more = with_entry shelf name entries.Refused in
        on_grown shelf more name together found imports behind end (refused_grows shelf name) (λ unit holds. absurd (never_refused name unit comes holds))
        (closes more size together (found ++ imports) behind end h)
    closes shelf size (name ∷ together) found behind end (taken _ _ _ _ _ _ (entries.Held m count) imports _ none comes within inner h) =
        let more = with_module shelf name m in
        on_grown shelf more name together found imports behind end (module_grows shelf name m) (λ unit holds. held_imports name m count imports unit comes holds inner)
        (closes more (size + count) together (found ++ imports) behind end h)

    module _ (m : Module) (size : ℕ) (imports : List Name) (last : Shelf) (same : imports ≡ unit_imports main)
        (h : Loads (ComesTo files base) (with_module no_entries main_name m) size [] imports [] (Loaded last)) where
      closed : Closes (with_module no_entries main_name m) [] imports [] last
      closed = closes (with_module no_entries main_name m) size [] imports [] (Loaded last) h

      all_done : (x : Name) → has last x ≡ true → IsDone last x
      all_done = closed.done (λ x e other. absurd (other (main_alone main_name m x e)))

      settled_by : (unit : Unit) (x : Name) → Asks (Settled last) (unit_imports unit) → AsksFor unit x → Settled last x
      settled_by unit x all a =
          at_one (Settled last) (asked_for a.1.0) x (at_one (OfImport (Settled last)) (unit_imports unit) a.1.0 all a.1.1) a.1.2

      settled : (x : Name) → IsAskedFor files base main x → Settled last x
      settled x (by_main _ a) = settled_by main x (subst (Asks (Settled last)) same closed.of_found) a
      settled x (by_file asking _ unit asked holds a) = by (settled asking asked)
        where
          by : Settled last asking → Settled last x
          by (inl there) =
              settled_by unit x (all_done asking there (never_main files base main asking asked) unit holds) a
          by (inr none) = absurd (not_none asking holds.0 holds.1 none)

      pub complete : (x : Name) (file : NamedFile) → IsAskedFor files base main x → file_of files base x ≡ Some file
          → has last x ≡ true
      complete x file asked is = by (settled x asked)
        where
          by : Settled last x → has last x ≡ true
          by (inl there) = there
          by (inr none) = absurd (not_none x file is none)
