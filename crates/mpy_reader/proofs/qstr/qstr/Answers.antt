use Rattle.std.proofs.lemmas.Result.{err_from_is_err_and}
use Rattle.std.proofs.lemmas.Bool.{ne_eqb}
use Rattle.mpy_reader.specs.Reading.{qstr}
use Rattle.mpy_reader.proofs.Steps.{exit, onward}
use Rattle.mpy_reader.proofs.qstr.qstr.Goals as goal

pub returns-in_err-n : goal.returns-in_err-n
unfolding qstr
returns-in_err-n c =
    let p = err_from_is_err_and c.from_residual.result c.from_residual.ensures.1 in
    exit _ _ _ _ _ _ p.1 p.2 c.in_err-n.ensures

pub returns-then-n-eq1 : goal.returns-then-n-eq1
unfolding qstr
returns-then-n-eq1 c = onward _ _ _ _ (c.in_ok-n.n, c.in_ok-n.rest.now) c.in_ok-n.ensures (rw c.if-n-eq1.true c.static_qstr.ensures)

pub returns-else-n-eq1 : goal.returns-else-n-eq1
unfolding qstr
returns-else-n-eq1 c = onward _ _ _ _ (c.in_ok-n.n, c.in_ok-n.rest.now) c.in_ok-n.ensures (rw (ne_eqb _ _ c.if-n-eq1.false) c.own_qstr.ensures)
