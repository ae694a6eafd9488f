-- An empty list that is filled item by item.
use Rattle.std.proofs.Common.{◌≡◌, ℕ, ◌+◌, ◌<◌, ◌≤◌, List, length, take, Option, Some, None, sym, ap, ap₂, ◌∙◌, arith, get_or-set_same, get_or-set_other}
use Rattle.std.specs.Prelude.{slice_get}
use Rattle.std.specs.List.{insert}
use Rattle.std.proofs.lemmas.List.{set-set, length-take-le, take_all}
use Rattle.std.proofs.lemmas.List.Edits.{insert_end}
use Rattle.prim_assignments.specs.arena_heap.declared.value.Value.{Value}
use Rattle.mpy_base.specs.World.{ListObject, Heap, AList, IsA, object, items_of, items_at, room_of, room_at, with_object, with_list}
use Rattle.mpy_base.proofs.Worlds.{is_within}
use Rattle.prim_assignments.specs.arena_heap.Values.{ArenaObject}
use Rattle.prim_assignments.proofs.arena_objects_lemmas.Gifts.{item_more}

module _ (h : Heap Value ℕ) (l : ℕ) (is : IsA h.objects AList l) (target : List Value) where
  -- the items below k are there
  abbrev pub filled : ℕ → Heap Value ℕ
  filled k = with_list h l (take k target)

  there : (a : Heap Value ℕ) (k : ℕ) → a ≡ filled k → object a.objects l ≡ Some (ListObject (take k target) (room_at h l))
  there a k e = ap (λ (w : Heap Value ℕ). object w.objects l) e ∙ get_or-set_same h.objects l (Some (ListObject (take k target) (room_at h l))) None (is_within h.objects AList l is)

  pub count : (a : Heap Value ℕ) (k : ℕ) → a ≡ filled k → k ≤ length target → length (items_at a l) ≡ k
  count a k e le = ap (λ (o : Option ArenaObject). length (items_of o)) (there a k e) ∙ length-take-le k target le

  -- all other objects stay
  pub elsewhere : (a : Heap Value ℕ) (k n : ℕ) → a ≡ filled k → (n ≡ l → ⊥) → object a.objects n ≡ object h.objects n
  elsewhere a k n e other = ap (λ (w : Heap Value ℕ). object w.objects n) e ∙ get_or-set_other h.objects l n (Some (ListObject (take k target) (room_at h l))) None other

  -- one item more
  pub step : (a b : Heap Value ℕ) (k : ℕ) (v : Value) → a ≡ filled k → k < length target → slice_get target k ≡ Some v → b ≡ with_list a l (insert (items_at a l) k v) → b ≡ filled (k + 1)
  step a b k v e lt read put =
      let now = there a k e in
      let at : k ≡ length (take k target) = sym (length-take-le k target (omega arith)) in
      let more : insert (take k target) k v ≡ take (k + 1) target = ap (λ (j : ℕ). insert (take k target) j v) at ∙ (insert_end (take k target) v ∙ sym (item_more target k v read)) in
      put ∙ (ap (λ (o : Option ArenaObject). with_object a l (ListObject (insert (items_of o) k v) (room_of o))) now
      ∙ (ap₂ (λ (w : Heap Value ℕ) (xs : List Value). with_object w l (ListObject xs (room_at h l))) e more
      ∙ ap (λ (os : List (Option ArenaObject)). record h { objects = os }) (set-set h.objects l (Some (ListObject (take k target) (room_at h l))) (Some (ListObject (take (k + 1) target) (room_at h l))))))

  pub ends : (a : Heap Value ℕ) (k : ℕ) → k ≡ length target → a ≡ filled k → a ≡ with_list h l target
  ends a k end e = e ∙ ap (λ (xs : List Value). with_list h l xs) (take_all k target (omega arith))
