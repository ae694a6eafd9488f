use Rattle.std.proofs.Common.{ℕ, ℤ, Option, map, w32, to_z, of_z, sym, ap, ◌∙◌, subst}
use Rattle.std.specs.Prelude.{IfSome}
use Rattle.arena_objects.specs.arena_heap.declared.value.Value.{Value}
use Rattle.arena_objects.specs.arena_heap.Constants.{NestsWithin}
use Rattle.arena_objects.specs.Iterables.{items_in}
use Rattle.py_primitives.specs.py_values.Shown.{Tuple, Range, shown}
use Rattle.arena_objects.proofs.RangeNumbers.{small_same}
use Rattle.prim_walks.specs.Plain.{plain, plain_heap}
use Rattle.prim_walks.proofs.PlainValues.{fixed_shown, range_shown}
use Rattle.prim_walks.proofs.look.look_at.Goals as goal

pub returns-in-Fixed-clause-shown : goal.returns-in-Fixed-clause-shown
returns-in-Fixed-clause-shown g c =
    let texts = g.C.Constants.text_of c.args.consts.now in
    let tuples = g.C.Constants.items_of c.args.consts.now in
    let heap = c.args.arena.now in
    let nests : NestsWithin tuples 32 c.in-Fixed.c = subst (λ (o : Option ℕ). IfSome o (λ _. NestsWithin tuples 32 c.in-Fixed.c)) c.unwrap.ensures c.len.ensures.nests in
    ap (λ (v : Value). Tuple (map (plain texts tuples) (items_in tuples heap v))) c.in-Fixed.is
    ∙ sym (ap (λ (v : Value). shown (plain_heap texts tuples heap) (plain texts tuples v)) c.in-Fixed.is ∙ fixed_shown texts tuples (plain_heap texts tuples heap) c.in-Fixed.c nests)

pub returns-in-Range-clause-shown : goal.returns-in-Range-clause-shown
returns-in-Range-clause-shown g c =
    let texts = g.C.Constants.text_of c.args.consts.now in
    let tuples = g.C.Constants.items_of c.args.consts.now in
    let heap = c.args.arena.now in
    let p = c.range_parts-start.result in
    let e = c.range_parts-start.ensures in
    let start = small_same p.0 e.start in
    let stop = small_same p.1 e.stop in
    let step = small_same p.2 e.step in
    ap (λ (z : ℤ). Range z (to_z w32 (of_z w32 p.1)) (to_z w32 (of_z w32 p.2))) start
    ∙ (ap (λ (z : ℤ). Range p.0 z (to_z w32 (of_z w32 p.2))) stop ∙ (ap (λ (z : ℤ). Range p.0 p.1 z) step
    ∙ sym (ap (λ (v : Value). shown (plain_heap texts tuples heap) (plain texts tuples v)) c.in-Range.is ∙ range_shown texts tuples heap c.in-Range.r.cell p.0 p.1 p.2 e.parts)))
