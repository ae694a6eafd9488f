-- Names of modules by the numbers of their texts.
use Rattle.std.proofs.Common.{◌≡◌, ℕ, zero, suc, ◌≤◌, List, [], ◌∷◌, length, Option, Some, None, All, refl, sym, ap, ◌∙◌, arith}
use Rattle.std.specs.Prelude.{slice_get, is_some, IsSome}
use Rattle.std.proofs.lemmas.List.Elements.{All-nil, All-cons}
use Rattle.std.proofs.lemmas.Option.{slice_get_within}
use Rattle.frame_calls.specs.arena_heap.declared.value.StrNo.{StrNo}
use Rattle.frame_calls.specs.arena_heap.declared.value.StrNo.TheVariants as strs
use Rattle.frame_calls.specs.arena_objects.Iterables.{or_nothing}
use Rattle.bc_progress.specs.py_effects.Modules as modules
use Rattle.vm_states.specs.bc_library.Shelf.{Shelf, Named}
use Rattle.frame_calls.specs.prim_walks.Plain.{plain_name}
use Rattle.vm_states.specs.frame_exits.declared.names.ModuleName.{ModuleName}
use Rattle.vm_states.specs.frame_exits.Left.{HasLast}
use Rattle.vm_states.specs.frame_exits.Names.{AreTablesOf}
use Rattle.vm_states.specs.Means.{Program, Means}
use Rattle.vm_starting.specs.Titles.{AreTitles}
use Rattle.vm_starting.proofs.Lasts.{last_is}

beyond : {A : Type 0} (xs : List A) (i : ℕ) → slice_get xs i ≡ None → length xs ≤ i
beyond [] i e = omega arith
beyond (x ∷ xs) zero e = absurd cc
beyond (x ∷ xs) (suc i) e = let le = beyond xs i e in omega (arith, le)

past : (shelf : Shelf) (i : ℕ) → slice_get shelf.modules i ≡ None → length shelf.modules ≤ i
past shelf i e = beyond shelf.modules i e

-- what they say of a program
-- ==========================

each_all : (P : ModuleName → Type 0) (names : List ModuleName) → ((i : ℕ) (m : ModuleName) → slice_get names i ≡ Some m → P m) → All P names
each_all P [] each = All-nil P
each_all P (m ∷ names) each = All-cons P m names (each 0 m refl) (each_all P names (λ i x e. each (suc i) x e))

module _ (p : Program) (means : Means p) (names : List ModuleName) (are : AreTitles p.shelf names) where
  -- the module of a name
  module_of : (i : ℕ) (m : ModuleName) → slice_get names i ≡ Some m → (n : Named) × (slice_get p.shelf.modules i ≡ Some n)
  module_of i m e = by (slice_get p.shelf.modules i) refl
    where
      by : (o : Option Named) → slice_get p.shelf.modules i ≡ o → (n : Named) × (slice_get p.shelf.modules i ≡ Some n)
      by None f = absurd (let lt = slice_get_within names i m e in let le = past p.shelf i f in omega (arith, lt, le, are.as_many))
      by (Some n) f = (n, f)

  text_is : (i : ℕ) (m : ModuleName) (e : slice_get names i ≡ Some m) → p.tables.texts (strs.Pool m.name) ≡ Some (module_of i m e).0.name
  text_is i m e =
      let n = module_of i m e in
      ap (λ (t : StrNo → Option (List ℕ)). t (strs.Pool m.name)) means.constants.texts ∙ (are.each i m n.0 e n.1).name_is

  named : (i : ℕ) (m : ModuleName) (e : slice_get names i ≡ Some m) → plain_name p.tables.texts p.tables.tuples m.name ≡ (module_of i m e).0.name
  named i m e = ap or_nothing (text_is i m e)

  pub tables_of : AreTablesOf p.tables.texts p.tables.tuples names p.tables
  tables_of = record {
    texts_are = refl;
    tuples_are = refl;
    names_are = λ i m e. (let n = module_of i m e in (means.modules i n.0 n.1).name_is ∙ sym (named i m e));
  }

  pub told : All (λ m. IsSome (p.tables.texts (strs.Pool m.name))) names
  told = each_all (λ m. IsSome (p.tables.texts (strs.Pool m.name))) names (λ i m e. ap is_some (text_is i m e))

  pub last : All (HasLast p.tables.texts p.tables.tuples) names
  last = each_all (HasLast p.tables.texts p.tables.tuples) names (λ i m e.
      let n = module_of i m e in
      ap (λ (t : StrNo → Option (List ℕ)). t (strs.Pool m.last)) means.constants.texts
      ∙ ((are.each i m n.0 e n.1).last_is ∙ ap Some (sym (ap modules.last_part (named i m e) ∙ last_is n.0.name))))
