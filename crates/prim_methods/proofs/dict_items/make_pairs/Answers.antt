use Rattle.std.proofs.Common.{◌≡◌, ℕ, ◌<◌, List, [], ◌∷◌, length, take, sym, ap, ◌∙◌, subst, arith}
use Rattle.std.specs.Prelude.{slice_get}
use Rattle.std.proofs.lemmas.Option.{slice_get-get_or}
use Rattle.mpy_base.specs.World.{Heap, TupleObject, ADict, Later, pairs_of, pairs_at}
use Rattle.mpy_base.specs.Weights.{Made, used}
use Rattle.mpy_base.proofs.Worlds.{is_within}
use Rattle.prim_assignments.specs.arena_heap.declared.value.Value.{Value}
use Rattle.prim_assignments.proofs.arena_objects_lemmas.Places.{no_pair, read_pair}
use Rattle.prim_methods.proofs.PairMakings.{tuples_later, tuples_same, next_tuple, next_fits}
use Rattle.prim_methods.proofs.dict_items.make_pairs.Goals as goal

pub dict_at-requires : goal.dict_at-requires
dict_at-requires c =
    let h = c.args.arena.now in
    let d = c.args.d.cell in
    let pairs : List (Value × Value) = pairs_at h d in
    (subst (λ (w : Heap Value ℕ). Later h.objects w.objects) (sym c.loop-at.invariant.0) (tuples_later h (take c.loop-at.at pairs))).keeps ADict d c.requires.dict

pub unreachable-requires : goal.unreachable-requires
unreachable-requires c =
    let h = c.args.arena.now in
    let d = c.args.d.cell in
    let at = c.loop-at.at in
    let pairs : List (Value × Value) = pairs_at h d in
    let same : pairs_at c.loop-at.arena d ≡ pairs =
    ap (λ (w : Heap Value ℕ). pairs_at w d) c.loop-at.invariant.0 ∙ ap pairs_of (tuples_same h (take at pairs) d (is_within h.objects ADict d c.requires.dict)) in
    let lt : at < length pairs = omega (arith, c.loop-at-test.true, c.dict_len-at-end.ensures) in
    let there = slice_get-get_or pairs at no_pair lt in
    let read = c.dict_at.ensures.pair ∙ ap (λ (ps : List (Value × Value)). slice_get ps at) same in
    let none = c.in_default.is in
    cc

pub loop-at-preserved : goal.loop-at-preserved
loop-at-preserved c =
    let h = c.args.arena.now in
    let d = c.args.d.cell in
    let at = c.loop-at.at in
    let a = c.loop-at.arena in
    let new = c.make_pair.new.arena in
    let pairs : List (Value × Value) = pairs_at h d in
    let pair : Value × Value = (c.in-Some.key, c.in-Some.v) in
    let same : pairs_at a d ≡ pairs = ap (λ (w : Heap Value ℕ). pairs_at w d) c.loop-at.invariant.0 ∙ ap pairs_of (tuples_same h (take at pairs) d (is_within h.objects ADict d c.requires.dict)) in
    let lt : at < length pairs = omega (arith, c.loop-at-test.true, c.dict_len-at-end.ensures) in
    let read = read_pair pairs at pair (c.in-Some.ensures.pair ∙ ap (λ (ps : List (Value × Value)). slice_get ps at) same) in
    let made : Made a new (used a) (TupleObject (c.in-Some.key ∷ c.in-Some.v ∷ [])) = c.in_ok-make_pair.ensures.made in
    (next_tuple h a new (used a) pairs at pair lt (read.1 no_pair) c.loop-at.invariant.0 made, next_fits h a new (used a) pairs at pair lt c.loop-at.invariant.0 made)
