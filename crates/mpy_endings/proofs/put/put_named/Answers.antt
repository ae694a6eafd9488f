use Rattle.std.proofs.lemmas.Result.{err_from_is_err_and}
use Rattle.std.proofs.Common.{◌++◌, codes}
use Rattle.mpy_endings.specs.Line.{spaced}
use Rattle.mpy_endings.proofs.Said.{cut, both}
use Rattle.mpy_endings.proofs.put.put_named.Goals as goal

pub returns-in_err-put : goal.returns-in_err-put
returns-in_err-put g c =
    let failed = err_from_is_err_and c.from_residual.result c.from_residual.ensures.1 in
    rw failed.1 (cut (g.E.Sink.told c.args.say.now) (g.E.Sink.told c.put.new.say) (g.E.Sink.count c.args.say.now) (g.E.Sink.count c.put.new.say) c.args.what.now (spaced c.args.name.now ++ codes "\n") failed.0 c.in_err-put.ensures)

pub returns : goal.returns
returns g c = both (g.E.Sink.told c.args.say.now) (g.E.Sink.told c.put.new.say) (g.E.Sink.told c.put_last_word.new.say) (g.E.Sink.count c.args.say.now) (g.E.Sink.count c.put.new.say) (g.E.Sink.count c.put_last_word.new.say) c.args.what.now (spaced c.args.name.now ++ codes "\n") c.in_ok-put.field-0 c.put_last_word.result c.in_ok-put.ensures c.put_last_word.ensures
