use Rattle.std.proofs.lemmas.Result.{err_from_is_err_and}
use Rattle.std.proofs.Common.{◌++◌}
use Rattle.mpy_endings.proofs.Said.{cut, both}
use Rattle.mpy_endings.proofs.put.put_three.Goals as goal

pub returns-in_err-put_two : goal.returns-in_err-put_two
returns-in_err-put_two g c =
    let failed = err_from_is_err_and c.from_residual.result c.from_residual.ensures.1 in
    rw failed.1 (cut (g.E.Sink.told c.args.say.now) (g.E.Sink.told c.put_two.new.say) (g.E.Sink.count c.args.say.now) (g.E.Sink.count c.put_two.new.say) (c.args.first.now ++ c.args.second.now) c.args.third.now failed.0 (c.in_err-put_two.ensures))

pub returns : goal.returns
returns g c = both (g.E.Sink.told c.args.say.now) (g.E.Sink.told c.put_two.new.say) (g.E.Sink.told c.put.new.say) (g.E.Sink.count c.args.say.now) (g.E.Sink.count c.put_two.new.say) (g.E.Sink.count c.put.new.say) (c.args.first.now ++ c.args.second.now) c.args.third.now c.in_ok-put_two.field-0 c.put.result (c.in_ok-put_two.ensures) (c.put.ensures)
