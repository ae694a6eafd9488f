-- From a cell with the number of a text to the key that contracts see.
use Rattle.std.proofs.Common.{ℕ, ◌+◌, ◌*◌, ◌<◌, ◌≡◌, Option, Some, get_or, refl, sym, ◌∙◌, ap, arith}
use Rattle.std.specs.Prelude.{option_map}
use Rattle.std.proofs.lemmas.List.{get_or_default}
use Rattle.std.proofs.lemmas.Option.{slice_get-get_or}
use Rattle.arena_heap.specs.declared.arena.Arena.TheInside.{Inside}
use Rattle.arena_heap.specs.declared.value.Value.{Value}
use Rattle.arena_heap.specs.declared.value.Value.TheVariants as values
use Rattle.arena_heap.specs.declared.value.StrNo.TheVariants as strs
use Rattle.arena_heap.specs.declared.cells.Cell.{Cell}
use Rattle.arena_heap.specs.declared.cells.Cell.TheVariants.{DictHead}
use Rattle.arena_heap.specs.declared.cells.Cell.TheVariants as variants
use Rattle.arena_heap.specs.declared.cells.Region.{Region}
use Rattle.qstr_pool.specs.mpy_base.World.{Heap, pairs_at}
use Rattle.arena_heap.specs.Cells.{blank, value_of, heads}
use Rattle.arena_heap.specs.Named.{IsNamed}
use Rattle.arena_heap.proofs.DictSeen.{seen_dict_len, seen_pair, dict_lies}
use Rattle.arena_heap.proofs.Seen.{seen, Invariant}

-- the first cell of a pair holds the number of its key
pub named_key : (a : Inside) {h : Heap Value ℕ} (e : seen a ≡ h) (n : ℕ) {r : Region} (head : heads a.cells.items n ≡ DictHead r) → Invariant a → (at i : ℕ) → at < r.len → i ≡ r.start + 3 * at
    → (x : Cell) (number : ℕ) → x ≡ get_or a.cells.items i x → x ≡ variants.Pool number → IsNamed (pairs_at h n) at number
named_key a {h} e n {r} head inv at i lt ei x number ex is =
    let lies = dict_lies a inv n head in
    let len = seen_dict_len a e n head in
    let j : ℕ = r.start + (3 * at + 1) in
    let y : Cell = get_or a.cells.items j blank in
    let ey : y ≡ get_or a.cells.items j y = get_or_default a.cells.items j blank y (omega arith) in
    let k : Value = values.Str (strs.Pool number) in
    let d : Value × Value = (k, value_of y) in
    let p : d ≡ get_or (pairs_at h n) at d = seen_pair a e n head inv at i j lt ei refl x y k (value_of y) ex (sym (ap value_of is)) ey refl d in
    ap (λ (o : Option (Value × Value)). option_map (λ (q : Value × Value). q.0) o) (slice_get-get_or (pairs_at h n) at d (omega arith))
    ∙ ap (λ (q : Value × Value). Some q.0) (sym p)
