-- The rooms of an arena's lists and dicts, and what is left of the arena.
use Rattle.std.proofs.Common.{ℕ, ◌+◌, ◌^◌, ◌<◌, ◌≤◌, ◌≡◌, List, length, take, drop, sym, subst, arith}
use Rattle.std.proofs.lemmas.List.FromFn.{length-map-range_with_len}
use Rattle.std.proofs.lemmas.List.{length-map, length-take}
use Rattle.arena_heap.specs.declared.arena.Arena.TheInside.{Inside}
use Rattle.arena_heap.specs.declared.value.Value.{Value}
use Rattle.arena_heap.specs.declared.cells.Cell.{Cell}
use Rattle.arena_heap.specs.declared.cells.Cell.TheVariants as cells
use Rattle.qstr_pool.specs.mpy_base.World.{Heap, object}
use Rattle.qstr_pool.specs.mpy_base.Weights.{Fits}
use Rattle.arena_heap.specs.Values.{IsWithinRoom, HasOwnRoom, HasFew}
use Rattle.arena_heap.specs.Cells.{heads, first, size, part, decode, Full, value_of, pair_in}
use Rattle.arena_heap.proofs.Frame.{object_is}
use Rattle.arena_heap.proofs.Seen.{seen, Invariant}
use Rattle.arena_heap.proofs.Views.{used_is}

decoded_room : (c : Cell) (ps : List Cell) (bs : List ℕ) → Full c → IsWithinRoom (decode c ps bs)
decoded_room (cells.ListHead r) ps bs f = omega (arith, f.0, length-map (take r.len ps) value_of, length-take r.len ps)
decoded_room (cells.DictHead r) ps bs f = omega (arith, f.0, length-map-range_with_len (pair_in ps) 0 r.len)
decoded_room _ ps bs f = tt

pub seen_rooms : (a : Inside) {h : Heap Value ℕ} → Invariant a → seen a ≡ h → (n : ℕ) → IsWithinRoom (object h.objects n)
seen_rooms a i e n =
    subst (λ (h : Heap Value ℕ). IsWithinRoom (object h.objects n)) e
    (subst IsWithinRoom (sym (object_is a.cells.items a.bytes.items n)) (decoded_room (heads a.cells.items n) _ _ (i.kept.full n)))

decoded_own : (c : Cell) (ps : List Cell) (bs : List ℕ) → Full c → HasOwnRoom (decode c ps bs)
decoded_own (cells.ListHead r) ps bs f = f.1
decoded_own (cells.DictHead r) ps bs f = f.1
decoded_own _ ps bs f = tt

pub seen_own_rooms : (a : Inside) {h : Heap Value ℕ} → Invariant a → seen a ≡ h → (n : ℕ) → HasOwnRoom (object h.objects n)
seen_own_rooms a i e n =
    subst (λ (h : Heap Value ℕ). HasOwnRoom (object h.objects n)) e
    (subst HasOwnRoom (sym (object_is a.cells.items a.bytes.items n)) (decoded_own (heads a.cells.items n) _ _ (i.kept.full n)))

pub seen_left : (a : Inside) {h : Heap Value ℕ} → Invariant a → seen a ≡ h → Fits h 0 0
seen_left a i e =
    subst (λ (h : Heap Value ℕ). Fits h 0 0) e
    (record { cells_fit = omega (arith, i.cells_fit, used_is a.cells.items a.bytes.items a.room.cells a.room.bytes); bytes_fit = omega (arith, i.bytes_fit) })

pub seen_few_bytes : (a : Inside) {h : Heap Value ℕ} → Invariant a → seen a ≡ h → h.byte_size < 2 ^ 32
seen_few_bytes a i e = subst (λ (h : Heap Value ℕ). h.byte_size < 2 ^ 32) e i.bytes_few

-- what an object holds lies in its region
decoded_few : (c : Cell) (n limit : ℕ) (ps : List Cell) (bs : List ℕ) → limit < 2 ^ 32 → first n c + size c ≤ limit → length ps ≤ size c → Full c → HasFew (decode c ps bs)
decoded_few (cells.ListHead r) n limit ps bs few low short f = omega (arith, few, low, short, length-map (take r.len ps) value_of, length-take r.len ps)
decoded_few (cells.TupleHead k) n limit ps bs few low short f = omega (arith, few, low, short, length-map ps value_of)
decoded_few (cells.DictHead r) n limit ps bs few low short f = omega (arith, few, low, f.0, length-map-range_with_len (pair_in ps) 0 r.len)
decoded_few _ n limit ps bs few low short f = tt

pub seen_few_items : (a : Inside) {h : Heap Value ℕ} → Invariant a → seen a ≡ h → (n : ℕ) → HasFew (object h.objects n)
seen_few_items a i e n =
    let head = heads a.cells.items n in
    let short : length (part a.cells.items (first n head) (size head)) ≤ size head = let most = length-take (size head) (drop (first n head) a.cells.items) in omega (arith, most) in
    subst (λ (h : Heap Value ℕ). HasFew (object h.objects n)) e
    (subst HasFew (sym (object_is a.cells.items a.bytes.items n))
    (decoded_few head n (length a.cells.items) _ _ (omega (arith, i.cells_fit, i.cells_few)) (i.kept.cells_apart.inside n) short (i.kept.full n)))
