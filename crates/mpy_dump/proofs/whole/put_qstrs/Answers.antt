use Rattle.std.proofs.Common.{[], ◌++◌, ◌+◌, drop, sym}
use Rattle.std.proofs.lemmas.List.{append-nil}
use Rattle.mpy_dump.specs.Numbered.{numbered}
use Rattle.mpy_dump.specs.Listing.{qstr_line}
use Rattle.mpy_dump.proofs.Putting.{begin, step, stop, done, number, numbers_end, rest_is}
use Rattle.mpy_dump.proofs.whole.put_qstrs.Goals as goal

pub loop-n-init : goal.loop-n-init
loop-n-init g c = rest_is (sym (append-nil (numbered qstr_line 0 c.args.qstrs.now))) (begin _ _ _ _)

pub returns-in_err-put_qstr : goal.returns-in_err-put_qstr
returns-in_err-put_qstr g c =
    let n = c.loop-n.n in
    let entries = c.args.qstrs.now in
    stop (numbered qstr_line (n + 1) (drop (n + 1) entries) ++ []) c.from_residual.result c.from_residual.ensures.0
    (number qstr_line entries n c.index-qstrs-n.result [] c.loop-n-test.true c.index-qstrs-n.is c.loop-n.invariant) c.in_err-put_qstr.ensures

pub loop-n-preserved : goal.loop-n-preserved
loop-n-preserved g c =
    let n = c.loop-n.n in
    let entries = c.args.qstrs.now in
    step (numbered qstr_line (n + 1) (drop (n + 1) entries) ++ [])
    (number qstr_line entries n c.index-qstrs-n.result [] c.loop-n-test.true c.index-qstrs-n.is c.loop-n.invariant) c.in_ok-put_qstr.ensures

pub returns : goal.returns
returns g c = done _ (numbers_end qstr_line c.args.qstrs.now c.loop-n.n [] c.loop-n-test.false c.loop-n.invariant)
