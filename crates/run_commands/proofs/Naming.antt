-- No module of a library that was loaded of files has an empty name.
use Rattle.std.proofs.Common.{◌≡◌, ◌≢◌, ◌⊎◌, inl, inr, ◌==◌, ℕ, zero, suc, Bool, true, false, List, [], ◌∷◌, ◌++◌, map, Option, Some, None, Result, Ok, Err, refl, sym, ap, subst, ◌∙◌, if◌then◌else◌}
use Rattle.std.specs.Prelude.{slice_get}
use Rattle.std.specs.List.{AllByRecursion}
use Rattle.std.proofs.lemmas.Bool.{eqb-true}
use Rattle.mpy_io.specs.Files.{FileOf}
use Rattle.bc_library.specs.mpy_tree.Raw.{Module}
use Rattle.bc_library.specs.Shelf.{Named, Shelf, no_entries, with_module}
use Rattle.command_files.specs.pkg_paths.Plain.{is_plain}
use Rattle.library_files.specs.declared.entry.Entry.{Entry}
use Rattle.library_files.specs.declared.entry.Entry.TheVariants as entries
use Rattle.library_files.specs.declared.limit.Limit.{Limit}
use Rattle.library_files.specs.Asked.{asked_for, is_of_port, prefixes}
use Rattle.library_files.specs.Comes.{ComesTo, OfNames}
use Rattle.library_files.specs.Loads.{Loading, Loaded, LoadsBy, Loads, ends, next, known, unaccepted, past, taken, limit_of, main_name, with_entry}
use Rattle.snap_loading.specs.Given.{HasNames}
use Rattle.run_commands.specs.Base.{base_of}
use Rattle.run_commands.specs.Run.{FileLibrary}

-- names that are asked for
-- ========================

abbrev AreNames : List (List ℕ) → Type 0
AreNames names = AllByRecursion (λ name. name ≢ []) names

all_longer : (byte : ℕ) (fronts : List (List ℕ)) → AreNames (map (λ front. byte ∷ front) fronts)
all_longer byte [] = tt
all_longer byte (front ∷ fronts) = ((λ e. absurd cc), all_longer byte fronts)

unless : (plain port : Bool) (names : List (List ℕ)) → AreNames names → AreNames (if plain then (if port then [] else names) else [])
unless true true names all = tt
unless true false names all = all
unless false port names all = tt

-- the names that are asked for where one is imported
asked_named : (name : List ℕ) → AreNames (asked_for name)
asked_named [] = tt
asked_named (byte ∷ name) = by (byte == 46) refl
  where
    by : (b : Bool) → (byte == 46) ≡ b → AreNames (asked_for (byte ∷ name))
    by true is = subst (λ (z : ℕ). AreNames (asked_for (z ∷ name))) (sym (eqb-true byte 46 is)) tt
    by false is =
        subst
        (λ (b : Bool). let all = if b then [] ∷ map (λ front. byte ∷ front) (prefixes name) else map (λ front. byte ∷ front) (prefixes name) in
        AreNames (if is_plain (byte ∷ name) then (if is_of_port all then [] else all) else []))
        (sym is) (unless (is_plain (byte ∷ name)) (is_of_port (map (λ front. byte ∷ front) (prefixes name))) _ (all_longer byte (prefixes name)))

-- the modules of a library
-- ========================

-- a member of a list with one more
last_or : (xs : List Named) (y : Named) (i : ℕ) (n : Named) → slice_get (xs ++ y ∷ []) i ≡ Some n → (slice_get xs i ≡ Some n) ⊎ (y ≡ n)
last_or [] y zero n e = inr cc
last_or [] y (suc i) n e = absurd cc
last_or (x ∷ xs) y zero n e = inl e
last_or (x ∷ xs) y (suc i) n e = last_or xs y i n e

with_named : (shelf : Shelf) (name : List ℕ) (m : Module) → HasNames shelf → name ≢ [] → HasNames (with_module shelf name m)
with_named shelf name m h some = record {
  some = λ i n e. elim (last_or shelf.modules (record { name = name; held = m }) i n e) [
    | inl there ↦ h.some i n there
    | inr same ↦ λ none. some (ap (λ (x : Named). x.name) same ∙ none)
  ];
}

entry_named : (shelf : Shelf) (name : List ℕ) (entry : Entry) → HasNames shelf → name ≢ [] → HasNames (with_entry shelf name entry)
entry_named shelf name entries.Absent h some = h
entry_named shelf name entries.Refused h some = record { some = h.some }
entry_named shelf name (entries.Held m size) h some = with_named shelf name m h some

-- where the names that are asked for together have a byte each
loads_named : (Comes : OfNames) (shelf : Shelf) (size : ℕ) (together found behind : List (List ℕ)) (end : Loading) (result : Shelf) → Loads Comes shelf size together found behind end
    → HasNames shelf → AreNames together → end ≡ Loaded result → HasNames result
loads_named Comes shelf size [] [] [] end result (ends _ _) h all e = let same : shelf ≡ result = cc in subst HasNames same h
loads_named Comes shelf size [] found behind end result (next _ _ _ _ name names _ is l) h all e =
    loads_named Comes shelf size (asked_for name) [] names end result l h (asked_named name) e
loads_named Comes shelf size (name ∷ together) found behind end result (known _ _ _ _ _ _ _ there l) h all e =
    loads_named Comes shelf size together found behind end result l h all.1 e
loads_named Comes shelf size (name ∷ together) found behind end result (unaccepted _ _ _ _ _ _ source none comes) h all e = absurd cc
loads_named Comes shelf size (name ∷ together) found behind end result (past _ _ _ _ _ _ entry limit none comes is) h all e = absurd cc
loads_named Comes shelf size (name ∷ together) found behind end result (taken _ _ _ _ _ _ entry imports _ none comes is inner l) h all e =
    loads_named Comes (with_entry shelf name entry) _ together (found ++ imports) behind end result l (entry_named shelf name entry h all.0) all.1 e

loaded_by : (o : Option Limit) (Comes : OfNames) (main : Module) (size : ℕ) (shelf : Shelf) → LoadsBy o Comes main size (Loaded shelf) → HasNames shelf
loaded_by (Some limit) Comes main size shelf h = absurd cc
loaded_by None Comes main size shelf h =
    loads_named Comes (with_module no_entries main_name main) size [] h.0 [] (Loaded shelf) shelf h.2
    (with_named no_entries main_name main (record { some = λ i n e. absurd cc }) (λ e. absurd cc)) tt refl

pub files_named : (files : FileOf) (name : List ℕ) (shelf : Shelf) → FileLibrary (Some files) name (Ok shelf) → HasNames shelf
files_named files name shelf h = loaded_by (limit_of no_entries 0 main_name (entries.Held h.main h.size)) (ComesTo files (base_of name)) h.main h.size shelf h.loads
