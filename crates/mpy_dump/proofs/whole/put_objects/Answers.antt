use Rattle.std.proofs.Common.{[], ◌++◌, ◌+◌, drop, sym}
use Rattle.std.proofs.lemmas.List.{append-nil}
use Rattle.mpy_dump.specs.Numbered.{numbered}
use Rattle.mpy_dump.specs.Listing.{object_line}
use Rattle.mpy_dump.proofs.Putting.{begin, step, stop, done, number, numbers_end, rest_is}
use Rattle.mpy_dump.proofs.whole.put_objects.Goals as goal

pub loop-n-init : goal.loop-n-init
loop-n-init g c = rest_is (sym (append-nil (numbered object_line 0 c.args.objects.now))) (begin _ _ _ _)

pub returns-in_err-put_object_line : goal.returns-in_err-put_object_line
returns-in_err-put_object_line g c =
    let n = c.loop-n.n in
    let entries = c.args.objects.now in
    stop (numbered object_line (n + 1) (drop (n + 1) entries) ++ []) c.from_residual.result c.from_residual.ensures.0
    (number object_line entries n c.index-objects-n.result [] c.loop-n-test.true c.index-objects-n.is c.loop-n.invariant) c.in_err-put_object_line.ensures

pub loop-n-preserved : goal.loop-n-preserved
loop-n-preserved g c =
    let n = c.loop-n.n in
    let entries = c.args.objects.now in
    step (numbered object_line (n + 1) (drop (n + 1) entries) ++ [])
    (number object_line entries n c.index-objects-n.result [] c.loop-n-test.true c.index-objects-n.is c.loop-n.invariant) c.in_ok-put_object_line.ensures

pub returns : goal.returns
returns g c = done _ (numbers_end object_line c.args.objects.now c.loop-n.n [] c.loop-n-test.false c.loop-n.invariant)
