use Rattle.std.proofs.Common.{◌-◌, All, refl, sym, subst, arith}
use Rattle.mpy_writer.specs.Writable.{IsShallow}
use Rattle.mpy_writer.proofs.Trees.{some_level, codes_more, shallow_below, collected}
use Rattle.mpy_writer.proofs.codes.+add_codes.Goals as goal

pub overflow_sub-levels : goal.overflow_sub-levels
overflow_sub-levels t c = some_level c.args.levels c.args.code.now c.requires

pub add_codes-requires : goal.add_codes-requires
add_codes-requires t c =
    let some = some_level c.args.levels c.args.code.now c.requires in
    let below = shallow_below c.args.levels (c.args.levels - 1) c.args.code.now c.requires refl in
    let kids = subst (All (IsShallow (c.args.levels - 1))) (sym c.as_slice-child-items.ensures) below in
    (omega (arith, some, c.decreases), subst (IsShallow (c.args.levels - 1)) (sym c.child-item.is) (kids c.loop-child.child-index c.child-item.result c.loop-child-test.true))

pub returns : goal.returns
returns t c =
    collected (λ x. x.now) c.args.codes.now.items c.push.new.self.items c.loop-child.codes.items c.args.code c.args.levels (c.args.levels - 1) c.args.code.now c.as_slice-child-items.result.now c.loop-child.child-index
    c.in_ok-push.ensures.items refl c.as_slice-child-items.ensures (codes_more c.args.levels (c.args.levels - 1) c.args.code.now c.requires refl) c.loop-child-test.false c.loop-child.invariant
