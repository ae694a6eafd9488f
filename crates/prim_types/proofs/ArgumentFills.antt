-- Tuples that are filled with arguments.
use Rattle.std.proofs.Common.{◌≡◌, ℕ, ◌+◌, ◌<◌, ◌≤◌, List, length, get_or, set, Option, Some, None, refl, sym, ap, ap₂, ◌∙◌, arith, get_or-set_same}
use Rattle.std.specs.Prelude.{slice_get}
use Rattle.std.proofs.lemmas.List.{set-get_or, set-set}
use Rattle.mpy_base.proofs.Worlds.{is_within}
use Rattle.prim_builtins.specs.arena_heap.declared.value.Value.{Value}
use Rattle.prim_builtins.specs.arena_heap.declared.value.Value.TheVariants as values
use Rattle.mpy_base.specs.World.{TupleObject, Heap, ATuple, IsA, object, kind_of, items_of, items_at, with_tuple}
use Rattle.prim_builtins.specs.arena_heap.Values.{ArenaObject}
use Rattle.prim_builtins.proofs.prim_operators_lemmas.TextFills.{partly, partly_more, partly_all, partly_length}
use Rattle.prim_builtins.proofs.prim_operators_lemmas.ItemFills.{read_value}

kept : (o : Option ArenaObject) → kind_of o ≡ Some ATuple → Some (TupleObject (items_of o)) ≡ o
kept (Some (TupleObject items)) is = refl
kept _ is = absurd cc

module _ (h : Heap Value ℕ) (t : ℕ) (is : IsA h.objects ATuple t) (args : List Value) (room : length (items_at h t) ≡ length args) where
  -- the items below k are filled
  abbrev pub filled : ℕ → Heap Value ℕ
  filled k = with_tuple h t (partly args (items_at h t) k)

  pub begins : h ≡ filled 0
  begins =
      sym (ap (λ (o : Option ArenaObject). record h { objects = set h.objects t o }) (kept (object h.objects t) is)
      ∙ ap (λ (os : List (Option ArenaObject)). record h { objects = os }) (set-get_or h.objects t None))

  partly_there : (a : Heap Value ℕ) (k : ℕ) → a ≡ filled k → items_at a t ≡ partly args (items_at h t) k
  partly_there a k e = ap (λ (w : Heap Value ℕ). items_at w t) e ∙ ap items_of (get_or-set_same h.objects t (Some (TupleObject (partly args (items_at h t) k))) None (is_within h.objects ATuple t is))

  pub room_there : (a : Heap Value ℕ) (k : ℕ) → a ≡ filled k → k ≤ length args → length (items_at a t) ≡ length args
  room_there a k e le = ap (λ (xs : List Value). length xs) (partly_there a k e) ∙ partly_length args (items_at h t) k (length args) refl room le

  pub step : (a b : Heap Value ℕ) (k : ℕ) (v : Value) → a ≡ filled k → k < length args → slice_get args k ≡ Some v → b ≡ with_tuple a t (set (items_at a t) k v) → b ≡ filled (k + 1)
  step a b k v e lt read put =
      let start = items_at h t in
      let now : v ≡ get_or args k values.None = read_value args k v read in
      put ∙ (ap₂ (λ (xs : List Value) (x : Value). with_tuple a t (set xs k x)) (partly_there a k e) now
      ∙ (ap (λ (w : Heap Value ℕ). with_tuple w t (set (partly args start k) k (get_or args k values.None))) e
      ∙ (ap (λ (os : List (Option ArenaObject)). record h { objects = os }) (set-set h.objects t (Some (TupleObject (partly args start k))) (Some (TupleObject (set (partly args start k) k (get_or args k values.None)))))
      ∙ ap (λ (xs : List Value). with_tuple h t xs) (partly_more args start k values.None lt (omega (arith, lt, room))))))

  pub ends : (a : Heap Value ℕ) (k : ℕ) → k ≡ length args → a ≡ filled k → a ≡ with_tuple h t args
  ends a k end e = e ∙ ap (λ (xs : List Value). with_tuple h t xs) (partly_all args (items_at h t) k (sym end) (room ∙ sym end))
