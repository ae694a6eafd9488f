use Rattle.mpy_base.specs.declared.limits.TheConstants.{MAX_CODE_BYTES}
use Rattle.bc_ops.proofs.Parts.{parted_none, stands, one_more, ends_within}
use Rattle.bc_ops.proofs.parting.part.Goals as goal

pub loop-at-init : goal.loop-at-init
loop-at-init c = rw (c.in_ok-offsets.ensures.items, c.in_ok-items.ensures.items) (parted_none c.args.code.now c.requires.decodes.0 c.requires.decodes.1)

pub unreachable-requires : goal.unreachable-requires
unreachable-requires c =
    let s = stands c.args.code.now c.loop-at.offsets.items c.loop-at.items.items c.loop-at.at c.loop-at.invariant c.loop-at-test.true in
    c.in_default.not-Ok _ (c.decode_at.ensures.only s.piece.text s.behind s.piece.instr s.spelled s.bytes_are)

pub parted_item-requires : goal.parted_item-requires
parted_item-requires c =
    let f = c.in-Ok.ensures.found in
    ends_within c.args.code.now f.0 f.1 c.loop-at.at c.in-Ok.end MAX_CODE_BYTES f.3 f.4 c.loop-at-test.true c.requires.short

pub loop-at-preserved : goal.loop-at-preserved
loop-at-preserved c =
    let f = c.in-Ok.ensures.found in
    rw (c.in_ok-push.ensures.items, c.in_ok-push-2.ensures.items, c.parted_item.ensures)
    (one_more c.args.code.now c.loop-at.offsets.items c.loop-at.items.items c.loop-at.at c.in-Ok.end c.in-Ok.instr c.loop-at.invariant f.0 f.1 f.2 f.3 f.4)
