-- Lists and dicts that grow, as the meaning has them.
use Rattle.std.proofs.Common.{◌≡◌, ◌≤◌, ℕ, zero, suc, ◌*◌, List, ◌∷◌, ◌++◌, length, map, replicate, Bool, true, false, cond, nat_le, Option, None, refl, sym, ap, ap₂, ◌∙◌, arith}
use Rattle.std.proofs.lemmas.List.{map-append, length-map, append-nil}
use Rattle.prim_operators.specs.arena_heap.declared.value.Value.{Value}
use Rattle.prim_operators.specs.arena_heap.declared.value.StrNo.{StrNo}
use Rattle.prim_operators.specs.arena_heap.declared.value.ConstNo.{ConstNo}
use Rattle.prim_operators.specs.mpy_base.World.{Object, ListObject, DictObject, Heap, items_at, room_at, with_object, with_dict}
use Rattle.prim_operators.specs.mpy_base.Weights.{room_for, does_fit, Fits, with_used, with_pairs, with_list_room, list_growth, dict_growth, grown_room}
use Rattle.prim_operators.specs.mpy_base.Val.{Val}
use Rattle.prim_operators.specs.arena_heap.Values.{ArenaObject}
use Rattle.prim_operators.specs.py_values.Shown.{PlainHeap}
use Rattle.prim_operators.specs.prim_walks.Plain.{plain_pair, plain_object, plain_heap}
use Rattle.prim_operators.proofs.prim_faults_lemmas.Heaps.{plain_made, room_of_plain, items_of_plain, object_put}

map_nones : {X Y : Type 0} (f : X → Y) (x : X) (k : ℕ) → map f (replicate k x) ≡ replicate k (f x)
map_nones f x zero = refl
map_nones f x (suc k) = ap (λ ys. f x ∷ ys) (map_nones f x k)

pub holds_so_many : (k room : ℕ) → k ≤ room → nat_le k room ≡ true
holds_so_many k room le = grind arith

-- a dict that keeps its room
pub pairs_kept : {V N : Type 0} (h : Heap V N) (n : ℕ) (pairs : List (V × V)) → length pairs ≤ room_at h n → with_pairs h n pairs ≡ with_dict h n pairs
pairs_kept {V} {N} h n pairs le =
    let k = length pairs in
    ap (λ (b : Bool). with_object (with_used h (cond b 0 (3 * room_for k))) n (DictObject pairs (cond b (room_at h n) (room_for k)))) (holds_so_many k (room_at h n) le)
    ∙ ap (λ (os : List (Option (Object V N))). with_object (record h { objects = os }) n (DictObject pairs (room_at h n))) (append-nil h.objects)

pub no_growth : {V N : Type 0} (h : Heap V N) (n k : ℕ) → k ≤ room_at h n → dict_growth h n k ≡ 0
no_growth h n k le = ap (λ (b : Bool). cond b 0 (3 * room_for k)) (holds_so_many k (room_at h n) le)

module _ (texts : StrNo → Option (List ℕ)) (tuples : ConstNo → Option (List Value)) (h : Heap Value ℕ) where
  used_put : (cells : ℕ) → plain_heap texts tuples (with_used h cells) ≡ with_used (plain_heap texts tuples h) cells
  used_put cells =
      let none : Option ArenaObject = None in
      ap (λ (os : List (Option (Object Val (List ℕ)))). record (plain_heap texts tuples h) { objects = os })
      (map-append (plain_object texts tuples) h.objects (replicate cells none)
      ∙ ap (λ (ys : List (Option (Object Val (List ℕ)))). map (plain_object texts tuples) h.objects ++ ys) (map_nones (plain_object texts tuples) none cells))

  grown_put : (n cells : ℕ) (o : ArenaObject) → plain_heap texts tuples (with_object (with_used h cells) n o) ≡ with_object (with_used (plain_heap texts tuples h) cells) n (plain_made texts tuples o)
  grown_put n cells o = object_put texts tuples (with_used h cells) n o ∙ ap (λ (w : PlainHeap). with_object w n (plain_made texts tuples o)) (used_put cells)

  pub dict_growth_plain : (n k : ℕ) → dict_growth (plain_heap texts tuples h) n k ≡ dict_growth h n k
  dict_growth_plain n k = ap (λ (r : ℕ). cond (nat_le k r) 0 (3 * room_for k)) (room_of_plain texts tuples h n)

  pub list_growth_plain : (n k : ℕ) → list_growth (plain_heap texts tuples h) n k ≡ list_growth h n k
  list_growth_plain n k = ap (λ (r : ℕ). cond (nat_le k r) 0 (room_for k)) (room_of_plain texts tuples h n)

  -- a dict that holds these pairs from now on
  pub pairs_put : (n : ℕ) (pairs : List (Value × Value)) → plain_heap texts tuples (with_pairs h n pairs) ≡ with_pairs (plain_heap texts tuples h) n (map (plain_pair texts tuples) pairs)
  pairs_put n pairs =
      let heap = plain_heap texts tuples h in
      let k = length pairs in
      let plain_pairs = map (plain_pair texts tuples) pairs in
      grown_put n (dict_growth h n k) (DictObject pairs (grown_room h n k))
      ∙ (ap (λ (r : ℕ). with_object (with_used heap (cond (nat_le k r) 0 (3 * room_for k))) n (DictObject plain_pairs (cond (nat_le k r) r (room_for k)))) (sym (room_of_plain texts tuples h n))
      ∙ ap (λ (j : ℕ). with_object (with_used heap (dict_growth heap n j)) n (DictObject plain_pairs (grown_room heap n j))) (sym (length-map pairs (plain_pair texts tuples))))

  -- a list with room for `k` items
  pub list_room_put : (n k : ℕ) → plain_heap texts tuples (with_list_room h n k) ≡ with_list_room (plain_heap texts tuples h) n k
  list_room_put n k =
      let heap = plain_heap texts tuples h in
      grown_put n (list_growth h n k) (ListObject (items_at h n) (grown_room h n k))
      ∙ ap₂ (λ (items : List Val) (r : ℕ). with_object (with_used heap (cond (nat_le k r) 0 (room_for k))) n (ListObject items (cond (nat_le k r) r (room_for k))))
      (sym (items_of_plain texts tuples h n)) (sym (room_of_plain texts tuples h n))
