use Rattle.std.proofs.Common.{◌++◌, codes, refl}
use Rattle.std.proofs.lemmas.Result.{err_from_is_err_and}
use Rattle.mpy_endings.proofs.Said.{cut, both}
use Rattle.mpy_endings.proofs.boards.say_missing.Goals as goal

pub returns-in_err-put_head : goal.returns-in_err-put_head
returns-in_err-put_head g c =
    let head = codes "mpy: " ++ c.args.name.now ++ codes ": board 4 NoModule " in
    let failed = err_from_is_err_and c.from_residual.result c.from_residual.ensures.1 in
    rw failed.1 (cut (g.E.Sink.told c.args.say.now) (g.E.Sink.told c.put_head.new.say) (g.E.Sink.count c.args.say.now) (g.E.Sink.count c.put_head.new.say) head (c.args.missing.now ++ codes "\n") failed.0 c.in_err-put_head.ensures)

pub returns : goal.returns
returns g c =
    let head = codes "mpy: " ++ c.args.name.now ++ codes ": board 4 NoModule " in
    both (g.E.Sink.told c.args.say.now) (g.E.Sink.told c.put_head.new.say) (g.E.Sink.told c.put_two.new.say) (g.E.Sink.count c.args.say.now) (g.E.Sink.count c.put_head.new.say) (g.E.Sink.count c.put_two.new.say) head (c.args.missing.now ++ codes "\n") c.in_ok-put_head.field-0 c.put_two.result c.in_ok-put_head.ensures c.put_two.ensures
