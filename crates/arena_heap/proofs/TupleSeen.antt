-- Tuples and texts: their cells and bytes, and what contracts see of them.
use Rattle.std.proofs.Common.{ℕ, suc, ◌+◌, ◌<◌, ◌≤◌, ◌≡◌, List, length, Option, Some, get_or, set, take, drop, map, refl, sym, ◌∙◌, ap, subst, arith, le_refl, length-set}
use Rattle.std.proofs.Math.Seq.{take-set-lt}
use Rattle.std.proofs.lemmas.List.{get_or_default, drop-set-add, map-set, length-map, get_or-map}
use Rattle.std.specs.List.{All}
use Rattle.std.specs.Vec.{vec_capacity}
use Rattle.arena_heap.specs.declared.arena.Arena.TheInside.{Inside}
use Rattle.arena_heap.specs.declared.value.Value.{Value}
use Rattle.arena_heap.specs.declared.value.Value.TheVariants as values
use Rattle.arena_heap.specs.declared.cells.Cell.{Cell}
use Rattle.arena_heap.specs.declared.cells.Span.{Span}
use Rattle.arena_heap.specs.declared.cells.Cell.TheVariants.{TupleHead, TextHead, DictHead}
use Rattle.qstr_pool.specs.mpy_base.World.{Heap, TupleObject, TextObject, ATuple, AText, IsA, object, items_of, text_of, items_at, text_at, with_tuple, with_text}
use Rattle.arena_heap.specs.Values.{ArenaObject, Leads, held, IsFormed}
use Rattle.arena_heap.specs.Cells.{blank, cell_of, value_of, kind_at, heads, first, size, byte_first, byte_size, part, read, heap_of, In, Kept, Holds, IsArena}
use Rattle.arena_heap.specs.Links.{without_text}
use Rattle.arena_heap.proofs.CellValues.{value_of-cell_of}
use Rattle.arena_heap.proofs.Regions.{length-part, get_or-part}
use Rattle.arena_heap.proofs.Frame.{holds_item, holds_byte}
use Rattle.arena_heap.proofs.ListCells.{part-set}
use Rattle.arena_heap.proofs.Seen.{seen, objects, Invariant, holds_now, seen_object, seen_within, seen_head, seen_sound, replaced_again, replaced_seen}
use Rattle.std.proofs.lemmas.List.Elements.{All-set, All-nil}

tuple_cell : (c : Cell) → kind_at c ≡ Some ATuple → (k : ℕ) × (c ≡ TupleHead k)
tuple_cell (TupleHead k) q = (k, refl)
tuple_cell _ q = absurd cc

-- a tuple has the head of one
pub tuple_head : (a : Inside) {h : Heap Value ℕ} → seen a ≡ h → (n : ℕ) → IsA h.objects ATuple n → (k : ℕ) × (heads a.cells.items n ≡ TupleHead k)
tuple_head a e n is = tuple_cell (heads a.cells.items n) (seen_head a e ATuple n is)

pub inside_tuple : (cells : List Cell) {a b : ℕ} → Kept (heads cells) a b → (n k : ℕ) → heads cells n ≡ TupleHead k → suc n + k ≤ a
inside_tuple cells {a} kept n k e = subst (λ (h : Cell). first n h + size h ≤ a) e (kept.cells_apart.inside n)

pub inside_text : (cells : List Cell) {a b : ℕ} → Kept (heads cells) a b → (n : ℕ) (t : Span) → heads cells n ≡ TextHead t → t.start + t.len ≤ b
inside_text cells {a} {b} kept n t e = subst (λ (h : Cell). byte_first n h + byte_size h ≤ b) e (kept.bytes_apart.inside n)

pub tuple_stored : {cells : List Cell} {bytes : List ℕ} {obs : List (Option ArenaObject)} {keys : Option ℕ} → Holds keys cells bytes obs → (n i k : ℕ) (v : Value) → n < length cells
    → heads cells n ≡ TupleHead k → i < k → Holds keys (set cells (suc n + i) (cell_of v)) bytes (set obs n (Some (TupleObject (set (map value_of (part cells (suc n) k)) i v))))
tuple_stored {cells} {bytes} {obs} {keys} h n i k v low e lt =
    let cells1 : List Cell = set cells (suc n + i) (cell_of v) in
    subst (λ (o : Option ArenaObject). Holds keys cells1 bytes (set obs n o))
    (ap (λ (c : Cell). read n c cells1 bytes) e
    ∙ ap (λ vs. Some (TupleObject vs)) (ap (map value_of) (part-set cells (suc n) k i (cell_of v) lt)
    ∙ (map-set value_of (part cells (suc n) k) i (cell_of v) ∙ ap (set (map value_of (part cells (suc n) k)) i) (value_of-cell_of v))))
    (holds_item h n (suc n + i) v low (subst (λ (c : Cell). In (first n c) (size c) (suc n + i)) (sym e) (record { low = omega arith; high = omega arith }))
    (λ below s r2 q. let q2 : TupleHead k ≡ DictHead r2 = sym e ∙ q in absurd cc))

pub text_stored : {cells : List Cell} {bytes : List ℕ} {obs : List (Option ArenaObject)} {keys : Option ℕ} → Holds keys cells bytes obs → (n i b : ℕ) (t : Span) → n < length cells
    → heads cells n ≡ TextHead t → i < t.len → Holds (without_text keys n) cells (set bytes (t.start + i) b) (set obs n (Some (TextObject (set (part bytes t.start t.len) i b))))
text_stored {cells} {bytes} {obs} {keys} h n i b t low e lt =
    let bytes1 : List ℕ = set bytes (t.start + i) b in
    subst (λ (o : Option ArenaObject). Holds (without_text keys n) cells bytes1 (set obs n o))
    (ap (λ (c : Cell). read n c cells bytes1) e
    ∙ ap (λ bs. Some (TextObject bs)) (ap (take t.len) (drop-set-add t.start bytes i b) ∙ take-set-lt t.len (drop t.start bytes) i b lt))
    (holds_byte h n (t.start + i) b (subst (λ (c : Cell). In (byte_first n c) (byte_size c) (t.start + i)) (sym e) (record { low = omega arith; high = omega arith })) low)

module _ (a : Inside) {h : Heap Value ℕ} (i : Invariant a) (e : seen a ≡ h) (n : ℕ) {k : ℕ} (head : heads a.cells.items n ≡ TupleHead k) where
  pub tuple_seen : object h.objects n ≡ Some (TupleObject (map value_of (part a.cells.items (suc n) k)))
  tuple_seen = seen_object a e n head

  pub tuple_items : map value_of (part a.cells.items (suc n) k) ≡ items_at h n
  tuple_items = sym (ap items_of tuple_seen)

  pub tuple_length : k ≡ length (items_at h n)
  tuple_length =
      sym (length-map (part a.cells.items (suc n) k) value_of ∙ length-part a.cells.items (suc n) k (inside_tuple a.cells.items i.kept n k head))
      ∙ ap length tuple_items

  pub tuple_item : (at : ℕ) → at < k → (x : Cell) (v : Value) → x ≡ get_or a.cells.items (n + 1 + at) x → v ≡ value_of x → v ≡ get_or (items_at h n) at values.None
  tuple_item at lt x v ex ev =
      let inside = inside_tuple a.cells.items i.kept n k head in
      let place : n + 1 + at ≡ suc n + at = omega arith in
      let ps : List Cell = part a.cells.items (suc n) k in
      ev ∙ (ap value_of (ex ∙ (get_or_default a.cells.items (n + 1 + at) x blank (omega arith) ∙ ap (λ (j : ℕ). get_or a.cells.items j blank) place))
      ∙ (ap value_of (sym (get_or-part a.cells.items (suc n) k at blank lt))
      ∙ (sym (get_or-map value_of ps at blank values.None (omega (arith, length-part a.cells.items (suc n) k inside))) ∙ ap (λ (vs : List Value). get_or vs at values.None) tuple_items)))

  pub tuple_leads : All (Leads h.objects) (items_at h n)
  tuple_leads =
      subst (All (Leads h.objects)) tuple_items
      (subst (λ (o : Option ArenaObject). All (Leads h.objects) (held o)) tuple_seen ((seen_sound a i e).leads n))

  pub tuple_filled : (is : IsA h.objects ATuple n) (at : ℕ) (v : Value) (x : Cell) → at < k → x ≡ cell_of v → Leads h.objects v
      → IsArena a.keys (set a.cells.items (n + 1 + at) x) a.bytes.items a.room.cells a.room.bytes (vec_capacity a.cells) (vec_capacity a.bytes)
      × (heap_of (set a.cells.items (n + 1 + at) x) a.bytes.items a.room.cells a.room.bytes ≡ with_tuple h n (set (items_at h n) at v))
  tuple_filled is at v x lt ex leads =
      let cells1 : List Cell = set a.cells.items (n + 1 + at) x in
      let o : ArenaObject = TupleObject (set (items_at h n) at v) in
      let place : suc n + at ≡ n + 1 + at = omega arith in
      let stored = tuple_stored (holds_now a i) n at k v (seen_within a e ATuple n is) head lt in
      let held1 : Holds a.keys (set a.cells.items (n + 1 + at) (cell_of v)) a.bytes.items (set (objects a) n (Some (TupleObject (set (map value_of (part a.cells.items (suc n) k)) at v)))) =
      subst (λ (j : ℕ). Holds a.keys (set a.cells.items j (cell_of v)) a.bytes.items (set (objects a) n (Some (TupleObject (set (map value_of (part a.cells.items (suc n) k)) at v))))) place stored in
      let held2 : Holds a.keys cells1 a.bytes.items (set (objects a) n (Some (TupleObject (set (map value_of (part a.cells.items (suc n) k)) at v)))) =
      subst (λ (y : Cell). Holds a.keys (set a.cells.items (n + 1 + at) y) a.bytes.items (set (objects a) n (Some (TupleObject (set (map value_of (part a.cells.items (suc n) k)) at v))))) (sym ex) held1 in
      let held3 : Holds a.keys cells1 a.bytes.items (set (objects a) n (Some o)) =
      subst (λ (vs : List Value). Holds a.keys cells1 a.bytes.items (set (objects a) n (Some (TupleObject (set vs at v))))) tuple_items held2 in (
        replaced_again a i e ATuple n is o refl cells1 a.bytes.items (vec_capacity a.cells) (vec_capacity a.bytes) held3 refl (le_refl _) (le_refl _)
            (All-set (Leads h.objects) (items_at h n) at v leads tuple_leads) tt,
        replaced_seen a e n (Some o) cells1 a.bytes.items held3 refl,
      )

module _ (a : Inside) {h : Heap Value ℕ} (i : Invariant a) (e : seen a ≡ h) (n : ℕ) {t : Span} (head : heads a.cells.items n ≡ TextHead t) where
  pub text_seen : object h.objects n ≡ Some (TextObject (part a.bytes.items t.start t.len))
  text_seen = seen_object a e n head

  pub text_bytes : part a.bytes.items t.start t.len ≡ text_at h n
  text_bytes = sym (ap text_of text_seen)

  pub text_length : t.len ≡ length (text_at h n)
  text_length = sym (length-part a.bytes.items t.start t.len (inside_text a.cells.items i.kept n t head)) ∙ ap length text_bytes

  pub text_ascii : All (λ (b : ℕ). b < 128) (text_at h n)
  text_ascii = subst (All (λ (b : ℕ). b < 128)) text_bytes (subst IsFormed text_seen ((seen_sound a i e).formed n))

  pub text_filled : (is : IsA h.objects AText n) (at b : ℕ) → at < t.len → b < 128
      → IsArena (without_text a.keys n) a.cells.items (set a.bytes.items (t.start + at) b) a.room.cells a.room.bytes (vec_capacity a.cells) (vec_capacity a.bytes)
      × (heap_of a.cells.items (set a.bytes.items (t.start + at) b) a.room.cells a.room.bytes ≡ with_text h n (set (text_at h n) at b))
  text_filled is at b lt ascii =
      let bytes1 : List ℕ = set a.bytes.items (t.start + at) b in
      let o : ArenaObject = TextObject (set (text_at h n) at b) in
      let l : length bytes1 ≡ length a.bytes.items = length-set a.bytes.items (t.start + at) b in
      let held1 : Holds (without_text a.keys n) a.cells.items bytes1 (set (objects a) n (Some o)) =
      subst (λ (bs : List ℕ). Holds (without_text a.keys n) a.cells.items bytes1 (set (objects a) n (Some (TextObject (set bs at b))))) text_bytes
      (text_stored (holds_now a i) n at b t (seen_within a e AText n is) head lt) in (
        replaced_again a i e AText n is o refl a.cells.items bytes1 (vec_capacity a.cells) (vec_capacity a.bytes) held1 l (le_refl _) (le_refl _)
            (All-nil (Leads h.objects)) (All-set (λ (x : ℕ). x < 128) (text_at h n) at b ascii text_ascii),
        replaced_seen a e n (Some o) a.cells.items bytes1 held1 l,
      )
