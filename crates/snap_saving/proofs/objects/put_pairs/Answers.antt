use Rattle.std.proofs.Common.{◌+◌, ◌∙◌, sym, arith}
use Rattle.mpy_base.specs.World.{pairs_at}
use Rattle.snap_saving.specs.Steps.{found, pair_bytes}
use Rattle.snap_saving.proofs.Adding.{ended, is_there, stepped, too_long}
use Rattle.snap_saving.proofs.objects.put_pairs.Goals as goal

pub unwrap-pair-requires : goal.unwrap-pair-requires
unwrap-pair-requires c = is_there c.dict_at.result (pairs_at c.args.arena.now c.args.d.cell) c.loop-at.at c.dict_at.ensures.pair (omega (arith, c.loop-at-test.true, c.dict_len-at-end.ensures))

pub returns-then-is_long-clause-fault : goal.returns-then-is_long-clause-fault
returns-then-is_long-clause-fault c =
    let f = pair_bytes c.args.library.now (found c.args.places.now) in
    let xs = pairs_at c.args.arena.now c.args.d.cell in
    let next = stepped f xs c.loop-at.at c.unwrap-pair.result c.loop-at.out.items c.put_pair.new.out.items _ (sym c.dict_at.ensures.pair ∙ c.unwrap-pair.ensures) c.in_ok-put_pair.ensures c.loop-at.invariant in
    too_long f xs (c.loop-at.at + 1) c.put_pair.new.out.items _ next c.if-is_long.ensures.yes

pub loop-at-preserved : goal.loop-at-preserved
loop-at-preserved c =
    stepped (pair_bytes c.args.library.now (found c.args.places.now)) (pairs_at c.args.arena.now c.args.d.cell) c.loop-at.at c.unwrap-pair.result c.loop-at.out.items c.put_pair.new.out.items _
    (sym c.dict_at.ensures.pair ∙ c.unwrap-pair.ensures) c.in_ok-put_pair.ensures c.loop-at.invariant

pub returns-clause-ok : goal.returns-clause-ok
returns-clause-ok c =
    ended (pair_bytes c.args.library.now (found c.args.places.now)) (pairs_at c.args.arena.now c.args.d.cell) c.loop-at.at c.loop-at.out.items _ (omega (arith, c.loop-at-test.false, c.dict_len-at-end.ensures)) c.loop-at.invariant
