use Rattle.std.proofs.Common.{ℕ, ◌-◌, List, refl, arith, rules}
use Rattle.std.proofs.lemmas.Result.{err_from_is_err_and}
use Rattle.mpy_tree.specs.declared.raw.RawCode.{RawCode}
use Rattle.mpy_reader.specs.Reading.{goes_on, code, element}
use Rattle.mpy_reader.proofs.Steps.{exit, onward}
use Rattle.mpy_reader.proofs.Many.{starts, goes_further, ended, exit_further}
use Rattle.mpy_reader.proofs.Codes.{no_level, one_level, some_children, no_children, known}
use Rattle.mpy_reader.proofs.code.+code.Goals as goal

pub codes-returns-in_err-code : goal.codes-returns-in_err-code
codes-returns-in_err-code t c =
    let p = err_from_is_err_and c.from_residual.result c.from_residual.ensures.1 in
    exit_further (code c.args.levels c.args.texts) _ _ _ _ _ _ _ _ _ p.1 p.2 c.loop-test.true c.in_err-code.ensures c.loop.invariant

pub codes-loop-preserved : goal.codes-loop-preserved
codes-loop-preserved t c = rw c.in_ok-push.ensures.ok (goes_further (code c.args.levels c.args.texts) _ _ _ _ _ _ _ c.loop-test.true c.in_ok-code.ensures c.loop.invariant)

pub codes-loop-init : goal.codes-loop-init
codes-loop-init t c = rw c.new-codes.ensures (starts (code c.args.levels c.args.texts) _ _ _ (omega arith))

pub codes-returns : goal.codes-returns
codes-returns t c = ended (code c.args.levels c.args.texts) _ _ _ _ _ c.loop-test.false c.loop.invariant

pub children-returns-then-not-has_some : goal.children-returns-then-not-has_some
children-returns-then-not-has_some t c = rw c.new.ensures (no_children _ _ _ (search rules))

pub children-returns-in_err-count : goal.children-returns-in_err-count
children-returns-in_err-count t c =
    let p = err_from_is_err_and c.from_residual.result c.from_residual.ensures.1 in
    some_children _ _ _ _ _ (search rules) (exit _ _ _ _ _ _ p.1 p.2 c.in_err-count.ensures)

pub children-returns : goal.children-returns
children-returns t c = some_children _ _ _ _ _ (search rules) (onward _ _ _ _ (c.in_ok-count.count, c.in_ok-count.rest.now) c.in_ok-count.ensures c.codes.ensures)

pub code-returns-then-levels-eq0 : goal.code-returns-then-levels-eq0
code-returns-then-levels-eq0 t c = no_level _ _ _ c.if-levels-eq0.true

pub code-returns-in_err-own : goal.code-returns-in_err-own
unfolding element
code-returns-in_err-own t c =
    let p = err_from_is_err_and c.from_residual.result c.from_residual.ensures.1 in
    one_level _ (c.args.levels - 1) _ _ _ _ (omega arith) (exit _ _ _ _ _ _ p.1 p.2 c.in_err-own.ensures)

pub code-returns-in_err-children : goal.code-returns-in_err-children
unfolding element
code-returns-in_err-children t c =
    let p = err_from_is_err_and c.from_residual-in_err-children.result c.from_residual-in_err-children.ensures.1 in
    one_level _ (c.args.levels - 1) _ _ _ _ (omega arith)
    (onward _ _ _ _ ((c.in_ok-own.own.now, c.in_ok-own.has_children), c.in_ok-own.rest.now) c.in_ok-own.ensures (exit _ _ _ _ _ _ p.1 p.2 c.in_err-children.ensures))

pub code-returns : goal.code-returns
unfolding element
code-returns t c =
    rw c.in_ok-bytes.ensures
    (one_level _ (c.args.levels - 1) _ _ (λ (x : RawCode × List ℕ). x) (known _ _) (omega arith)
    (goes_on ((c.in_ok-own.own.now, c.in_ok-own.has_children), c.in_ok-own.rest.now) c.in_ok-own.ensures
    (goes_on (c.in_ok-children.children, c.in_ok-children.rest.now) c.in_ok-children.ensures refl)))
