use Rattle.std.proofs.Common.{◌++◌, ℕ, List, codes, refl, ap}
use Rattle.std.proofs.lemmas.Result.{err_from_is_err_and}
use Rattle.mpy_endings.specs.Line.{snapshot_text}
use Rattle.mpy_endings.proofs.Said.{cut, both_are}
use Rattle.mpy_endings.proofs.snapshots.say_snapshot.Goals as goal

pub returns-in_err-put_head : goal.returns-in_err-put_head
returns-in_err-put_head g c =
    let head = codes "mpy: " ++ c.args.name.now ++ codes ": snapshot " in
    let failed = err_from_is_err_and c.from_residual.result c.from_residual.ensures.1 in
    rw failed.1 (cut (g.E.Sink.told c.args.say.now) (g.E.Sink.told c.put_head.new.say) (g.E.Sink.count c.args.say.now) (g.E.Sink.count c.put_head.new.say) head (snapshot_text c.args.fault ++ codes "\n") failed.0 c.in_err-put_head.ensures)

pub returns : goal.returns
returns g c =
    let head = codes "mpy: " ++ c.args.name.now ++ codes ": snapshot " in
    let text = ap (λ (bs : List ℕ). bs ++ codes "\n") c.snapshot_text.ensures in
    both_are (g.E.Sink.told c.args.say.now) (g.E.Sink.told c.put_head.new.say) (g.E.Sink.told c.put_two.new.say) (g.E.Sink.count c.args.say.now) (g.E.Sink.count c.put_head.new.say) (g.E.Sink.count c.put_two.new.say) head head (c.snapshot_text.result.now ++ codes "\n") (snapshot_text c.args.fault ++ codes "\n") c.in_ok-put_head.field-0 c.put_two.result refl text c.in_ok-put_head.ensures c.put_two.ensures
