-- A list or dict that has the room of what it is to hold, and then holds it.
use Rattle.std.proofs.Common.{ℕ, ◌≤◌, ◌≡◌, List, ◌++◌, length, Option, Some, None, set, replicate, sym, ◌∙◌, ap, subst, inl, inr, arith}
use Rattle.std.proofs.lemmas.List.{set-set}
use Rattle.std.proofs.lemmas.Bool.{cases_lt}
use Rattle.arena_heap.specs.declared.value.Value.{Value}
use Rattle.qstr_pool.specs.mpy_base.World.{Heap, ListObject, AList, IsA, Later, object, items_of, room_of, items_at, room_at, with_list, with_object}
use Rattle.qstr_pool.specs.mpy_base.Weights.{with_used, list_growth, grown_room, with_items, with_list_room}
use Rattle.qstr_pool.proofs.mpy_base_lemmas.Rooms.{room_is}
use Rattle.qstr_pool.proofs.mpy_base_lemmas.Worlds.{is_within, later_grown, object_grown}
use Rattle.arena_heap.specs.Values.{ArenaObject}
use Rattle.arena_heap.proofs.ListSeen.{kept_room, next_room}

pub room_grows : (h : Heap Value ℕ) (n k : ℕ) → k ≤ grown_room h n k
room_grows h n k = elim (cases_lt (room_at h n) k) [
  | inl low ↦ omega (arith, next_room h n k low, (room_is k).holds)
  | inr high ↦ omega (arith, kept_room h n k high)
]

module _ {new : Heap Value ℕ} (h : Heap Value ℕ) (n k : ℕ) (is : IsA h.objects AList n) (e : new ≡ with_list_room h n k) where
  pub reserved_later : Later h.objects new.objects
  reserved_later =
      subst (λ (w : Heap Value ℕ). Later h.objects w.objects) (sym e)
      (later_grown h n (list_growth h n k) (ListObject (items_at h n) (grown_room h n k)) (λ kind q. sym is ∙ q) AList is)

  reserved_list : object new.objects n ≡ Some (ListObject (items_at h n) (grown_room h n k))
  reserved_list = ap (λ (w : Heap Value ℕ). object w.objects n) e ∙ object_grown h n (list_growth h n k) (ListObject (items_at h n) (grown_room h n k)) (is_within h.objects AList n is)

  pub reserved_items : items_at new n ≡ items_at h n
  reserved_items = ap items_of reserved_list

  pub reserved_room : room_at new n ≡ grown_room h n k
  reserved_room = ap room_of reserved_list

  pub reserved_put : (items : List Value) → length items ≡ k → with_list new n items ≡ with_items h n items
  reserved_put items l =
      let none : Option ArenaObject = None in
      let more : List (Option ArenaObject) = h.objects ++ replicate (list_growth h n k) none in
      ap (λ (room : ℕ). record new { objects = set new.objects n (Some (ListObject items room)) }) reserved_room
      ∙ (ap (λ (w : Heap Value ℕ). record w { objects = set w.objects n (Some (ListObject items (grown_room h n k))) }) e
      ∙ (ap (λ (os : List (Option ArenaObject)). record h { objects = os }) (set-set more n (Some (ListObject (items_at h n) (grown_room h n k))) (Some (ListObject items (grown_room h n k))))
      ∙ ap (λ (j : ℕ). with_object (with_used h (list_growth h n j)) n (ListObject items (grown_room h n j))) (sym l)))
