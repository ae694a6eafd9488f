use Rattle.std.proofs.Common.{◌+◌, ◌*◌, ◌<◌, ◌≤◌, length, arith}
use Rattle.prim_assignments.specs.arena_heap.declared.value.Value.TheVariants as values
use Rattle.prim_methods.specs.PairTuples.{tuples_from}
use Rattle.prim_methods.proofs.ListFills.{count, step, ends}
use Rattle.prim_methods.proofs.PairMakings.{tuple_read, tuples_count}
use Rattle.prim_methods.proofs.dict_items.put_tuples.Goals as goal

pub put_in_list-requires-clause-within : goal.put_in_list-requires-clause-within
put_in_list-requires-clause-within c =
    let first = c.args.first in
    let target = tuples_from first c.args.count in
    let le : c.loop-k.k ≤ length target = omega (arith, c.loop-k-test.true, tuples_count first c.args.count) in
    omega (arith, count c.args.arena.now c.args.l.cell c.requires.list target c.loop-k.arena c.loop-k.k c.loop-k.invariant le)

pub loop-k-preserved : goal.loop-k-preserved
loop-k-preserved c =
    let h = c.args.arena.now in
    let l = c.args.l.cell in
    let k = c.loop-k.k in
    let first = c.args.first in
    let some = c.args.count in
    let target = tuples_from first some in
    let lt : k < length target = omega (arith, c.loop-k-test.true, tuples_count first some) in
    step h l c.requires.list target c.loop-k.arena c.put_in_list.new.arena k (values.Tuple (record { cell = first + 3 * k })) c.loop-k.invariant lt (tuple_read first some k c.loop-k-test.true) c.put_in_list.ensures

pub returns : goal.returns
returns c =
    let target = tuples_from c.args.first c.args.count in
    ends c.args.arena.now c.args.l.cell c.requires.list target c.loop-k.arena c.loop-k.k (omega (arith, c.loop-k-test.false, c.loop-k.auto.k-end, tuples_count c.args.first c.args.count)) c.loop-k.invariant
