use Rattle.std.proofs.Common.{◌++◌, ℕ, ap, ◌∙◌, arith}
use Rattle.std.specs.List.{flat_map}
use Rattle.mpy_base.specs.Vuint.{vuint}
use Rattle.image_freeze.specs.Frozen.{number_bytes}
use Rattle.image_freeze.proofs.Loops.{added_all, added_more}
use Rattle.image_freeze.proofs.modules.write_numbers.Goals as goal

pub loop-qstr-preserved : goal.loop-qstr-preserved
loop-qstr-preserved c =
    let f = number_bytes c.args.pool.now in
    added_more f c.args.qstrs.now c.loop-qstr.qstr-index c.qstr-item.result c.args.out.now.items c.loop-qstr.out.items c.write_vuint.new.out.items (flat_map f c.args.qstrs.now) c.loop-qstr-test.true c.qstr-item.is
    (c.in_ok-write_vuint.ensures.ok ∙ ap (λ (n : ℕ). c.loop-qstr.out.items ++ vuint n) c.qstr_number.ensures.number) c.loop-qstr.invariant

pub returns : goal.returns
returns c =
    let f = number_bytes c.args.pool.now in
    added_all f c.args.qstrs.now c.loop-qstr.qstr-index c.args.out.now.items c.loop-qstr.out.items (flat_map f c.args.qstrs.now) (omega (arith, c.loop-qstr-test.false)) c.loop-qstr.invariant
