use Rattle.std.proofs.Common.{◌+◌, ◌∙◌, sym, arith}
use Rattle.mpy_base.specs.World.{items_at}
use Rattle.snap_saving.specs.Steps.{found, value_bytes}
use Rattle.snap_saving.proofs.Adding.{ended, is_there, stepped, too_long}
use Rattle.snap_saving.proofs.objects.put_items.Goals as goal

pub unwrap-v-requires : goal.unwrap-v-requires
unwrap-v-requires c = is_there c.list_at.result (items_at c.args.arena.now c.args.l.cell) c.loop-at.at c.list_at.ensures.item (omega (arith, c.loop-at-test.true, c.list_len-at-end.ensures))

pub returns-then-is_long-clause-fault : goal.returns-then-is_long-clause-fault
returns-then-is_long-clause-fault c =
    let f = value_bytes c.args.library.now (found c.args.places.now) in
    let xs = items_at c.args.arena.now c.args.l.cell in
    let next = stepped f xs c.loop-at.at c.unwrap-v.result c.loop-at.out.items c.put_value.new.out.items _ (sym c.list_at.ensures.item ∙ c.unwrap-v.ensures) c.in_ok-put_value.ensures c.loop-at.invariant in
    too_long f xs (c.loop-at.at + 1) c.put_value.new.out.items _ next c.if-is_long.ensures.yes

pub loop-at-preserved : goal.loop-at-preserved
loop-at-preserved c =
    stepped (value_bytes c.args.library.now (found c.args.places.now)) (items_at c.args.arena.now c.args.l.cell) c.loop-at.at c.unwrap-v.result c.loop-at.out.items c.put_value.new.out.items _
    (sym c.list_at.ensures.item ∙ c.unwrap-v.ensures) c.in_ok-put_value.ensures c.loop-at.invariant

pub returns-clause-ok : goal.returns-clause-ok
returns-clause-ok c =
    ended (value_bytes c.args.library.now (found c.args.places.now)) (items_at c.args.arena.now c.args.l.cell) c.loop-at.at c.loop-at.out.items _ (omega (arith, c.loop-at-test.false, c.list_len-at-end.ensures)) c.loop-at.invariant
