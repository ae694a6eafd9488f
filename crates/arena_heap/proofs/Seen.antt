-- From an arena's fields to what contracts see.
use Rattle.std.proofs.Common.{ℕ, suc, ◌+◌, ◌^◌, ◌≤◌, ◌<◌, ◌≡◌, List, ◌∷◌, ◌++◌, length, Option, Some, None, set, replicate, refl, sym, ◌∙◌, ap, subst, arith, length-append, length-set}
use Rattle.std.proofs.Math.Path.{ap₂}
use Rattle.std.specs.List.{All}
use Rattle.std.specs.Vec.{vec_capacity}
use Rattle.std.proofs.lemmas.List.{length-replicate}
use Rattle.arena_heap.specs.declared.arena.Arena.TheInside.{Inside}
use Rattle.arena_heap.specs.declared.value.Value.{Value}
use Rattle.arena_heap.specs.declared.cells.Cell.{Cell}
use Rattle.qstr_pool.specs.mpy_base.World.{Heap, ObjectKind, IsA, object, kind_of, with_object}
use Rattle.qstr_pool.proofs.mpy_base_lemmas.Worlds.{later_append}
use Rattle.qstr_pool.specs.mpy_base.Weights.{Fits, used, with_used, with_made, Made, cells_of, more_cells, bytes_of}
use Rattle.arena_heap.specs.Values.{ArenaObject, Leads, Sound, held, IsFormed}
use Rattle.arena_heap.specs.Cells.{heads, read, kind_at, objects_of, heap_of, Holds, IsArena}
use Rattle.arena_heap.proofs.Frame.{length-objects, length_held, object_is}
use Rattle.arena_heap.proofs.Sounds.{sound_made, sound_set, sound_used, all_later}
use Rattle.arena_heap.proofs.Views.{head_is, head_within, used_is}

abbrev pub seen : Inside → Heap Value ℕ
seen a = heap_of a.cells.items a.bytes.items a.room.cells a.room.bytes

abbrev pub objects : Inside → List (Option ArenaObject)
objects a = objects_of a.cells.items a.bytes.items

abbrev pub Invariant : Inside → Type 0
Invariant a = IsArena a.keys a.cells.items a.bytes.items a.room.cells a.room.bytes (vec_capacity a.cells) (vec_capacity a.bytes)

pub holds_now : (a : Inside) → Invariant a → Holds a.keys a.cells.items a.bytes.items (objects a)
holds_now a i = record { kept = i.kept; linked = i.linked; objects = refl }

pub seen_is : (a : Inside) {h : Heap Value ℕ} → seen a ≡ h → (kind : ObjectKind) (n : ℕ) → IsA h.objects kind n → IsA (objects a) kind n
seen_is a e kind n i = subst (λ (h : Heap Value ℕ). IsA h.objects kind n) (sym e) i

pub seen_within : (a : Inside) {h : Heap Value ℕ} → seen a ≡ h → (kind : ObjectKind) (n : ℕ) → IsA h.objects kind n → n < length a.cells.items
seen_within a e kind n i = head_within a.cells.items a.bytes.items kind n (seen_is a e kind n i)

pub seen_head : (a : Inside) {h : Heap Value ℕ} → seen a ≡ h → (kind : ObjectKind) (n : ℕ) → IsA h.objects kind n → kind_at (heads a.cells.items n) ≡ Some kind
seen_head a e kind n i = head_is a.cells.items a.bytes.items kind n (seen_is a e kind n i)

-- the object with this head
pub seen_object : (a : Inside) {h : Heap Value ℕ} → seen a ≡ h → (n : ℕ) {c : Cell} → heads a.cells.items n ≡ c → object h.objects n ≡ read n c a.cells.items a.bytes.items
seen_object a e n {c} head =
    sym (ap (λ (h : Heap Value ℕ). object h.objects n) e) ∙ (object_is a.cells.items a.bytes.items n ∙ ap (λ (x : Cell). read n x a.cells.items a.bytes.items) head)

pub seen_leads : (a : Inside) {h : Heap Value ℕ} → seen a ≡ h → (vs : List Value) → All (Leads h.objects) vs → All (Leads (objects a)) vs
seen_leads a e vs all = subst (λ (h : Heap Value ℕ). All (Leads h.objects) vs) (sym e) all

pub seen_sound : (a : Inside) {h : Heap Value ℕ} → Invariant a → seen a ≡ h → Sound h.objects
seen_sound a i e = subst (λ (h : Heap Value ℕ). Sound h.objects) e i.sound

pub seen_fits : (a : Inside) {h : Heap Value ℕ} {x y : ℕ} → seen a ≡ h → Fits h x y → (length a.cells.items + x ≤ a.room.cells) × (length a.bytes.items + y ≤ a.room.bytes)
seen_fits a {h} {x} {y} e f =
    let g : Fits (seen a) x y = subst (λ (w : Heap Value ℕ). Fits w x y) (sym e) f in
    (omega (arith, g.cells_fit, used_is a.cells.items a.bytes.items a.room.cells a.room.bytes), g.bytes_fit)

pub seen_few : (a : Inside) {h : Heap Value ℕ} → Invariant a → seen a ≡ h → h.cell_size < 2 ^ 32
seen_few a i e = subst (λ (w : Heap Value ℕ). w.cell_size < 2 ^ 32) e i.cells_few

-- the invariant, after a call
pub arena_again : {keys : Option ℕ} (a : Inside) (cells : List Cell) (bytes : List ℕ) (obs : List (Option ArenaObject)) (cell_capacity byte_capacity : ℕ) → Invariant a → Holds keys cells bytes obs → Sound obs
    → length cells ≤ a.room.cells → length bytes ≤ a.room.bytes → a.room.cells ≤ cell_capacity → a.room.bytes ≤ byte_capacity → IsArena keys cells bytes a.room.cells a.room.bytes cell_capacity byte_capacity
arena_again a cells bytes obs cell_capacity byte_capacity i h s lc lb cc cb =
    record {
      kept = h.kept;
      linked = h.linked;
      sound = subst Sound (sym h.objects) s;
      cells_fit = lc;
      bytes_fit = lb;
      cells_few = i.cells_few;
      bytes_few = i.bytes_few;
      cells_taken = cc;
      bytes_taken = cb;
    }

-- the invariant after a making
pub made_again : {keys : Option ℕ} (a : Inside) {h : Heap Value ℕ} → Invariant a → seen a ≡ h → (o : ArenaObject) (cells : List Cell) (bytes : List ℕ) (cell_capacity byte_capacity : ℕ)
    → Fits h (cells_of o) (bytes_of o) → Holds keys cells bytes (objects a ++ Some o ∷ replicate (more_cells o) None) → length bytes ≡ length a.bytes.items + bytes_of o
    → vec_capacity a.cells ≤ cell_capacity → vec_capacity a.bytes ≤ byte_capacity → All (Leads h.objects) (held (Some o)) → IsFormed (Some o)
    → IsArena keys cells bytes a.room.cells a.room.bytes cell_capacity byte_capacity
made_again a i e o cells bytes cell_capacity byte_capacity fits held1 lb cc cb leads formed =
    let none : Option ArenaObject = None in
    let f = seen_fits a e fits in
    let l : length (objects a ++ Some o ∷ replicate (more_cells o) none) ≡ length a.cells.items + suc (more_cells o) =
    length-append (objects a) (Some o ∷ replicate (more_cells o) none) ∙ ap₂ (λ (x y : ℕ). x + suc y) (length-objects a.cells.items a.bytes.items) (length-replicate (more_cells o) none) in
    arena_again a cells bytes _ cell_capacity byte_capacity i held1 (sound_made (objects a) o (more_cells o) i.sound (seen_leads a e _ leads) formed)
    (omega (arith, f.0, l, length_held held1)) (omega (arith, f.1, lb)) (omega (arith, cc, i.cells_taken)) (omega (arith, cb, i.bytes_taken))

pub made_seen : {keys : Option ℕ} (a : Inside) {h : Heap Value ℕ} → seen a ≡ h → (o : ArenaObject) (cells : List Cell) (bytes : List ℕ) → Fits h (cells_of o) (bytes_of o)
    → Holds keys cells bytes (objects a ++ Some o ∷ replicate (more_cells o) None) → length bytes ≡ length a.bytes.items + bytes_of o
    → (n : ℕ) → n ≡ length a.cells.items → Made h (heap_of cells bytes a.room.cells a.room.bytes) n o
made_seen a e o cells bytes fits held1 lb n en =
    record {
      fits = fits;
      number = en ∙ (sym (used_is a.cells.items a.bytes.items a.room.cells a.room.bytes) ∙ ap used e);
      world = ap₂ (λ (os : List (Option ArenaObject)) (j : ℕ). record { objects = os; bytes = j; cell_size = a.room.cells; byte_size = a.room.bytes }) held1.objects lb
          ∙ ap (λ (h : Heap Value ℕ). with_made h o) e;
    }

-- the invariant where an object was replaced by one of its kind
pub replaced_again : {keys : Option ℕ} (a : Inside) {h : Heap Value ℕ} → Invariant a → seen a ≡ h → (kind : ObjectKind) (n : ℕ) → IsA h.objects kind n → (o : ArenaObject) → kind_of (Some o) ≡ Some kind
    → (cells : List Cell) (bytes : List ℕ) (cell_capacity byte_capacity : ℕ) → Holds keys cells bytes (set (objects a) n (Some o)) → length bytes ≡ length a.bytes.items
    → vec_capacity a.cells ≤ cell_capacity → vec_capacity a.bytes ≤ byte_capacity → All (Leads h.objects) (held (Some o)) → IsFormed (Some o)
    → IsArena keys cells bytes a.room.cells a.room.bytes cell_capacity byte_capacity
replaced_again a i e kind n is o is_kind cells bytes cell_capacity byte_capacity held1 lb cc cb leads formed =
    let lo = length-objects a.cells.items a.bytes.items in
    let old = seen_is a e kind n is in
    let lc : length cells ≡ length a.cells.items = omega (arith, length_held held1, length-set (objects a) n (Some o), lo) in
    arena_again a cells bytes _ cell_capacity byte_capacity i held1
    (sound_set (objects a) n (Some o) i.sound (omega (arith, seen_within a e kind n is, lo)) (λ k q. is_kind ∙ (sym old ∙ q)) (seen_leads a e _ leads) formed)
    (omega (arith, lc, i.cells_fit)) (omega (arith, lb, i.bytes_fit)) (omega (arith, cc, i.cells_taken)) (omega (arith, cb, i.bytes_taken))

pub replaced_seen : {keys : Option ℕ} (a : Inside) {h : Heap Value ℕ} → seen a ≡ h → (n : ℕ) (o : Option ArenaObject) (cells : List Cell) (bytes : List ℕ) → Holds keys cells bytes (set (objects a) n o) → length bytes ≡ length a.bytes.items
    → heap_of cells bytes a.room.cells a.room.bytes ≡ record h { objects = set h.objects n o }
replaced_seen a e n o cells bytes held1 lb =
    ap₂ (λ (os : List (Option ArenaObject)) (j : ℕ). record { objects = os; bytes = j; cell_size = a.room.cells; byte_size = a.room.bytes }) held1.objects lb
    ∙ ap (λ (h : Heap Value ℕ). record h { objects = set h.objects n o }) e

-- the same where cells were taken for it
pub grown_again : {keys : Option ℕ} (a : Inside) {h : Heap Value ℕ} → Invariant a → seen a ≡ h → (kind : ObjectKind) (n m : ℕ) → IsA h.objects kind n → (o : ArenaObject) → kind_of (Some o) ≡ Some kind
    → (cells : List Cell) (cell_capacity : ℕ) → Fits h m 0 → Holds keys cells a.bytes.items (set (objects a ++ replicate m None) n (Some o))
    → vec_capacity a.cells ≤ cell_capacity → All (Leads h.objects) (held (Some o)) → IsFormed (Some o)
    → IsArena keys cells a.bytes.items a.room.cells a.room.bytes cell_capacity (vec_capacity a.bytes)
grown_again a i e kind n m is o is_kind cells cell_capacity fits held1 cc leads formed =
    let none : Option ArenaObject = None in
    let f = seen_fits a e fits in
    let lo = length-objects a.cells.items a.bytes.items in
    let more = objects a ++ replicate m none in
    let lm : length more ≡ length (objects a) + m = length-append (objects a) (replicate m none) ∙ ap (λ j. length (objects a) + j) (length-replicate m none) in
    let later = later_append (objects a) (replicate m none) in
    let old = later.keeps kind n (seen_is a e kind n is) in
    arena_again a cells a.bytes.items _ cell_capacity (vec_capacity a.bytes) i held1
    (sound_set more n (Some o) (sound_used (objects a) m i.sound) (omega (arith, seen_within a e kind n is, lo, lm)) (λ k q. is_kind ∙ (sym old ∙ q)) (all_later later _ (seen_leads a e _ leads)) formed)
    (omega (arith, f.0, lo, lm, length_held held1, length-set more n (Some o))) i.bytes_fit (omega (arith, cc, i.cells_taken)) i.bytes_taken

pub grown_seen : {keys : Option ℕ} (a : Inside) {h : Heap Value ℕ} → seen a ≡ h → (n m : ℕ) (o : ArenaObject) (cells : List Cell) → Holds keys cells a.bytes.items (set (objects a ++ replicate m None) n (Some o))
    → heap_of cells a.bytes.items a.room.cells a.room.bytes ≡ with_object (with_used h m) n o
grown_seen a e n m o cells held1 =
    ap (λ (os : List (Option ArenaObject)). record { objects = os; bytes = length a.bytes.items; cell_size = a.room.cells; byte_size = a.room.bytes }) held1.objects
    ∙ ap (λ (h : Heap Value ℕ). with_object (with_used h m) n o) e
