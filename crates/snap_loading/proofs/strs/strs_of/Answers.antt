use Rattle.std.proofs.Common.{List, sym, ap, ◌∙◌, arith}
use Rattle.std.proofs.lemmas.List.{take_all}
use Rattle.bc_library.specs.Shelf.{Named}
use Rattle.snap_states.specs.Decoded.{constant_from}
use Rattle.snap_loading.specs.Texts.{beside}
use Rattle.snap_loading.proofs.Besides.{counted, modules_more, uncounted}
use Rattle.snap_loading.proofs.strs.strs_of.Goals as goal

pub loop-number-preserved : goal.loop-number-preserved
loop-number-preserved c = λ other.
    let one = counted c.args.library.now c.loop-number.number c.in-Some.count (sym c.in-Some.ensures) in
    modules_more other c.args.library.now.modules c.loop-number.number one.0 (beside c.loop-number.strs.entries other) (beside c.add_module.new.strs.entries other) one.1
    (c.loop-number.invariant other) (c.in_ok-add_module-in-Some.ensures one.0 one.1 other)

pub returns-in-None : goal.returns-in-None
returns-in-None c = λ text.
    c.loop-number.invariant text
    ∙ ap (λ (ms : List Named). constant_from 0 ms text) (take_all c.loop-number.number c.args.library.now.modules (uncounted c.args.library.now c.loop-number.number (sym c.in-None.ensures)))

pub returns : goal.returns
returns c = λ text.
    c.loop-number.invariant text
    ∙ ap (λ (ms : List Named). constant_from 0 ms text) (take_all c.loop-number.number c.args.library.now.modules (omega (arith, c.loop-number-test.false, c.library_law.ensures.few)))
