use Rattle.std.proofs.Common.{◌++◌, codes, refl, ap}
use Rattle.std.proofs.lemmas.Result.{err_from_is_err_and}
use Rattle.mpy_endings.specs.Line.{tag_text, plan_text, plan_number}
use Rattle.mpy_endings.proofs.Said.{cut_first, cut_second, cut_third, all_four}
use Rattle.mpy_endings.proofs.boards.say_plan.Goals as goal

pub returns-in_err-put_head : goal.returns-in_err-put_head
returns-in_err-put_head g c =
    let head = codes "mpy: " ++ c.args.name.now ++ codes ": board " in
    let failed = err_from_is_err_and c.from_residual.result c.from_residual.ensures.1 in
    rw failed.1 (cut_first (g.E.Sink.told c.args.say.now) (g.E.Sink.told c.put_head.new.say) (g.E.Sink.count c.args.say.now) (g.E.Sink.count c.put_head.new.say) head head (plan_text c.args.fault) (tag_text (plan_number c.args.fault)) (codes "\n") failed.0 refl c.in_err-put_head.ensures)

pub returns-in_err-put : goal.returns-in_err-put
returns-in_err-put g c =
    let head = codes "mpy: " ++ c.args.name.now ++ codes ": board " in
    let failed = err_from_is_err_and c.from_residual-in_err-put.result c.from_residual-in_err-put.ensures.1 in
    rw failed.1 (cut_second (g.E.Sink.told c.args.say.now) (g.E.Sink.told c.put_head.new.say) (g.E.Sink.told c.put.new.say) (g.E.Sink.count c.args.say.now) (g.E.Sink.count c.put_head.new.say) (g.E.Sink.count c.put.new.say) head head c.plan_text.result.now (plan_text c.args.fault) (tag_text (plan_number c.args.fault)) (codes "\n") c.in_ok-put_head.field-0 failed.0 refl c.plan_text.ensures c.in_ok-put_head.ensures c.in_err-put.ensures)

pub returns-in_err-put_place : goal.returns-in_err-put_place
returns-in_err-put_place g c =
    let head = codes "mpy: " ++ c.args.name.now ++ codes ": board " in
    let failed = err_from_is_err_and c.from_residual-in_err-put_place.result c.from_residual-in_err-put_place.ensures.1 in
    rw failed.1 (cut_third (g.E.Sink.told c.args.say.now) (g.E.Sink.told c.put_head.new.say) (g.E.Sink.told c.put.new.say) (g.E.Sink.told c.put_place.new.say) (g.E.Sink.count c.args.say.now) (g.E.Sink.count c.put_head.new.say) (g.E.Sink.count c.put.new.say) (g.E.Sink.count c.put_place.new.say) head head c.plan_text.result.now (plan_text c.args.fault) (tag_text c.plan_number.result) (tag_text (plan_number c.args.fault)) (codes "\n") c.in_ok-put_head.field-0 c.in_ok-put.field-0 failed.0 refl c.plan_text.ensures (ap tag_text c.plan_number.ensures) c.in_ok-put_head.ensures c.in_ok-put.ensures c.in_err-put_place.ensures)

pub returns : goal.returns
returns g c =
    let head = codes "mpy: " ++ c.args.name.now ++ codes ": board " in
    all_four (g.E.Sink.told c.args.say.now) (g.E.Sink.told c.put_head.new.say) (g.E.Sink.told c.put.new.say) (g.E.Sink.told c.put_place.new.say) (g.E.Sink.told c.put-2.new.say) (g.E.Sink.count c.args.say.now) (g.E.Sink.count c.put_head.new.say) (g.E.Sink.count c.put.new.say) (g.E.Sink.count c.put_place.new.say) (g.E.Sink.count c.put-2.new.say) head head c.plan_text.result.now (plan_text c.args.fault) (tag_text c.plan_number.result) (tag_text (plan_number c.args.fault)) (codes "\n") (codes "\n") c.in_ok-put_head.field-0 c.in_ok-put.field-0 c.in_ok-put_place.field-0 c.put-2.result refl c.plan_text.ensures (ap tag_text c.plan_number.ensures) refl c.in_ok-put_head.ensures c.in_ok-put.ensures c.in_ok-put_place.ensures c.put-2.ensures
