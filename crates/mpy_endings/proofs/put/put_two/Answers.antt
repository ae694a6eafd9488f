use Rattle.std.proofs.lemmas.Result.{err_from_is_err_and}
use Rattle.mpy_endings.proofs.Said.{cut, both}
use Rattle.mpy_endings.proofs.put.put_two.Goals as goal

pub returns-in_err-put : goal.returns-in_err-put
returns-in_err-put g c =
    let failed = err_from_is_err_and c.from_residual.result c.from_residual.ensures.1 in
    rw failed.1 (cut (g.E.Sink.told c.args.say.now) (g.E.Sink.told c.put.new.say) (g.E.Sink.count c.args.say.now) (g.E.Sink.count c.put.new.say) c.args.first.now c.args.second.now failed.0 (c.in_err-put.ensures))

pub returns : goal.returns
returns g c = both (g.E.Sink.told c.args.say.now) (g.E.Sink.told c.put.new.say) (g.E.Sink.told c.put-2.new.say) (g.E.Sink.count c.args.say.now) (g.E.Sink.count c.put.new.say) (g.E.Sink.count c.put-2.new.say) c.args.first.now c.args.second.now c.in_ok-put.field-0 c.put-2.result (c.in_ok-put.ensures) (c.put-2.ensures)
