-- From the head of a list to what contracts see of it.
use Rattle.std.proofs.Common.{ℕ, ◌+◌, ◌-◌, ◌*◌, ◌<◌, ◌≤◌, ◌≡◌, List, ◌++◌, length, Option, Some, None, get_or, set, replicate, refl, sym, ◌∙◌, ap, subst, arith, le_refl}
use Rattle.std.proofs.Math.Path.{ap₂}
use Rattle.std.specs.Vec.{vec_capacity}
use Rattle.std.specs.List.{All}
use Rattle.std.proofs.lemmas.List.{get_or_default, append-nil, set-get_or}
use Rattle.std.proofs.lemmas.Bool.{cond-true, cond-false, le-leb, lt-leb}
use Rattle.arena_heap.specs.declared.arena.Arena.TheInside.{Inside}
use Rattle.arena_heap.specs.declared.value.Value.{Value}
use Rattle.arena_heap.specs.declared.value.Value.TheVariants as values
use Rattle.arena_heap.specs.declared.cells.Cell.{Cell}
use Rattle.arena_heap.specs.declared.cells.Cell.TheVariants.{ListHead}
use Rattle.arena_heap.specs.declared.cells.Region.{Region}
use Rattle.qstr_pool.specs.mpy_base.World.{Heap, ListObject, AList, IsA, object, kind_of, items_of, room_of, items_at, room_at, with_object, with_list}
use Rattle.qstr_pool.specs.mpy_base.Weights.{Fits, IsRoom, room_for, with_used, list_growth, grown_room, with_list_room}
use Rattle.qstr_pool.proofs.mpy_base_lemmas.Rooms.{room_is}
use Rattle.arena_heap.specs.Values.{ArenaObject, Leads, held}
use Rattle.arena_heap.specs.Cells.{blank, value_of, heads, part, heap_of, Holds, IsArena}
use Rattle.arena_heap.proofs.Views.{fits_is}
use Rattle.arena_heap.proofs.ListCells.{items_in, full_list, inside_list, length-items, get_or-items, list_moved}
use Rattle.arena_heap.proofs.Seen.{seen, objects, Invariant, holds_now, seen_object, seen_within, seen_sound, replaced_again, replaced_seen, grown_again, grown_seen}

module _ (a : Inside) {h : Heap Value ℕ} (e : seen a ≡ h) (n : ℕ) {r : Region} (head : heads a.cells.items n ≡ ListHead r) where
  pub list_seen : object h.objects n ≡ Some (ListObject (items_in a.cells.items r) r.room)
  list_seen = seen_object a e n head

  pub seen_items : items_in a.cells.items r ≡ items_at h n
  seen_items = sym (ap items_of list_seen)

  pub seen_room : r.room ≡ room_at h n
  seen_room = sym (ap room_of list_seen)

  pub seen_len : Invariant a → r.len ≡ length (items_at h n)
  seen_len i = sym (length-items a.cells.items r (full_list a.cells.items i.kept n r head) (inside_list a.cells.items i.kept n r head)) ∙ ap length seen_items

  -- the item in a cell that was read
  pub seen_item : Invariant a → (at : ℕ) → at < r.len → (x : Cell) (v : Value) → x ≡ get_or a.cells.items (r.start + at) x → v ≡ value_of x → v ≡ get_or (items_at h n) at values.None
  seen_item i at lt x v ex ev =
      let full = full_list a.cells.items i.kept n r head in
      let inside = inside_list a.cells.items i.kept n r head in
      ev ∙ (ap value_of (ex ∙ get_or_default a.cells.items (r.start + at) x blank (omega arith))
      ∙ (sym (get_or-items a.cells.items r at values.None full inside lt) ∙ ap (λ (vs : List Value). get_or vs at values.None) seen_items))

  pub list_leads : Invariant a → All (Leads h.objects) (items_at h n)
  list_leads i =
      subst (All (Leads h.objects)) seen_items
      (subst (λ (o : Option ArenaObject). All (Leads h.objects) (held o)) list_seen ((seen_sound a i e).leads n))

-- a room that holds the items already stays
pub reserved_nothing : (h : Heap Value ℕ) (n items : ℕ) → IsA h.objects AList n → items ≤ room_at h n → h ≡ with_list_room h n items
reserved_nothing h n items is le =
    let fits = le-leb items (room_at h n) le in
    let no_growth : list_growth h n items ≡ 0 = cond-true _ _ _ fits in
    let same_room : grown_room h n items ≡ room_at h n = cond-true _ _ _ fits in
    sym (ap (λ (k : ℕ). with_object (with_used h k) n (ListObject (items_at h n) (grown_room h n items))) no_growth
    ∙ (ap (λ (k : ℕ). with_object (with_used h 0) n (ListObject (items_at h n) k)) same_room
    ∙ (ap (λ (os : List (Option ArenaObject)). record h { objects = set os n (Some (ListObject (items_at h n) (room_at h n))) }) (append-nil h.objects)
    ∙ ap (λ (os : List (Option ArenaObject)). record h { objects = os }) (ap (λ (o : Option ArenaObject). set h.objects n o) (list_itself (object h.objects n) is) ∙ set-get_or h.objects n None))))
  where
    list_itself : (o : Option ArenaObject) → kind_of o ≡ Some AList → Some (ListObject (items_of o) (room_of o)) ≡ o
    list_itself (Some (ListObject items room)) q = refl
    list_itself _ q = absurd cc

pub no_growth : (h : Heap Value ℕ) (n items : ℕ) → items ≤ room_at h n → list_growth h n items ≡ 0
no_growth h n items le = cond-true _ _ _ (le-leb items (room_at h n) le)

pub all_growth : (h : Heap Value ℕ) (n items : ℕ) → room_at h n < items → list_growth h n items ≡ room_for items
all_growth h n items lt = cond-false _ _ _ (lt-leb items (room_at h n) lt)

pub kept_room : (h : Heap Value ℕ) (n items : ℕ) → items ≤ room_at h n → grown_room h n items ≡ room_at h n
kept_room h n items le = cond-true _ _ _ (le-leb items (room_at h n) le)

pub next_room : (h : Heap Value ℕ) (n items : ℕ) → room_at h n < items → grown_room h n items ≡ room_for items
next_room h n items lt = cond-false _ _ _ (lt-leb items (room_at h n) lt)

module _ (a : Inside) {h : Heap Value ℕ} (i : Invariant a) (e : seen a ≡ h) (n : ℕ) {r : Region} (head : heads a.cells.items n ≡ ListHead r) (is : IsA h.objects AList n) where
  -- after a change of the items in place
  pub list_changed : (F : List Value → List Value) (cells : List Cell) (capacity : ℕ) → Holds a.keys cells a.bytes.items (set (objects a) n (Some (ListObject (F (items_in a.cells.items r)) r.room)))
      → vec_capacity a.cells ≤ capacity → All (Leads h.objects) (F (items_at h n))
      → IsArena a.keys cells a.bytes.items a.room.cells a.room.bytes capacity (vec_capacity a.bytes) × (heap_of cells a.bytes.items a.room.cells a.room.bytes ≡ with_list h n (F (items_at h n)))
  list_changed F cells capacity held1 cc leads =
      let o : ArenaObject = ListObject (F (items_at h n)) (room_at h n) in
      let same : Some (ListObject (F (items_in a.cells.items r)) r.room) ≡ Some o = ap₂ (λ (vs : List Value) (k : ℕ). Some (ListObject (F vs) k)) (seen_items a e n head) (seen_room a e n head) in
      let held2 : Holds a.keys cells a.bytes.items (set (objects a) n (Some o)) = subst (λ (x : Option ArenaObject). Holds a.keys cells a.bytes.items (set (objects a) n x)) same held1 in (
        replaced_again a i e AList n is o refl cells a.bytes.items capacity (vec_capacity a.bytes) held2 refl cc (le_refl _) leads tt,
        replaced_seen a e n (Some o) cells a.bytes.items held2 refl,
      )

  -- after a move to the room for `items` items
  pub list_reserved : (items start rest room : ℕ) (cells : List Cell) (capacity : ℕ) → r.room < items → room ≡ room_for items → rest ≡ room - r.len → start ≡ length a.cells.items
      → cells ≡ a.cells.items ++ (part a.cells.items r.start r.len ++ replicate rest blank) → Fits h (0 + 1 * room_for items) 0 → vec_capacity a.cells ≤ capacity
      → IsArena a.keys (set cells n (ListHead (record { start = start; len = r.len; room = room }))) a.bytes.items a.room.cells a.room.bytes capacity (vec_capacity a.bytes)
      × (heap_of (set cells n (ListHead (record { start = start; len = r.len; room = room }))) a.bytes.items a.room.cells a.room.bytes ≡ with_list_room h n items)
  list_reserved items start rest room cells capacity past eroom erest estart ecells fits cc =
      let new = room_is items in
      let full = full_list a.cells.items i.kept n r head in
      let total : r.len + rest ≡ room_for items = omega (arith, new.holds) in
      let whole : r.len + rest ≡ room = total ∙ sym eroom in
      let past_room : room_at h n < items = omega (arith, seen_room a e n head) in
      let growth : r.len + rest ≡ list_growth h n items = total ∙ sym (all_growth h n items past_room) in
      let o : ArenaObject = ListObject (items_at h n) (grown_room h n items) in
      let cells1 : List Cell = set cells n (ListHead (record { start = start; len = r.len; room = room })) in
      let same : Some (ListObject (items_in a.cells.items r) (r.len + rest)) ≡ Some o = ap₂ (λ (vs : List Value) (k : ℕ). Some (ListObject vs k)) (seen_items a e n head) (total ∙ sym (next_room h n items past_room)) in
      let moved = list_moved (holds_now a i) n start rest r cells (seen_within a e AList n is) head (subst IsRoom (sym total) new.is_room) estart ecells in
      let held1 : Holds a.keys cells1 a.bytes.items (set (objects a ++ replicate (r.len + rest) None) n (Some (ListObject (items_in a.cells.items r) (r.len + rest)))) =
      subst (λ (k : ℕ). Holds a.keys (set cells n (ListHead (record { start = start; len = r.len; room = k }))) a.bytes.items (set (objects a ++ replicate (r.len + rest) None) n (Some (ListObject (items_in a.cells.items r) (r.len + rest))))) whole moved in
      let held2 : Holds a.keys cells1 a.bytes.items (set (objects a ++ replicate (r.len + rest) None) n (Some o)) =
      subst (λ (x : Option ArenaObject). Holds a.keys cells1 a.bytes.items (set (objects a ++ replicate (r.len + rest) None) n x)) same held1 in
      let held3 : Holds a.keys cells1 a.bytes.items (set (objects a ++ replicate (list_growth h n items) None) n (Some o)) =
      subst (λ (k : ℕ). Holds a.keys cells1 a.bytes.items (set (objects a ++ replicate k None) n (Some o))) growth held2 in
      let grows : 0 + 1 * room_for items ≡ list_growth h n items = omega (arith, total, growth) in (
        grown_again a i e AList n (list_growth h n items) is o refl cells1 capacity (subst (λ (k : ℕ). Fits h k 0) grows fits) held3 cc (list_leads a e n head i) tt,
        grown_seen a e n (list_growth h n items) o cells1 held3,
      )

pub nothing_fits : (a : Inside) {h : Heap Value ℕ} → Invariant a → seen a ≡ h → Fits h 0 0
nothing_fits a i e = subst (λ (w : Heap Value ℕ). Fits w 0 0) e (fits_is a.cells.items a.bytes.items _ _ 0 0 (omega (arith, i.cells_fit)) (omega (arith, i.bytes_fit)))
