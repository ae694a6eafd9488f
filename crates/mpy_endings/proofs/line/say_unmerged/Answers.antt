use Rattle.std.proofs.Common.{◌++◌, codes, decimal, refl, ap}
use Rattle.std.proofs.lemmas.Result.{err_from_is_err_and}
use Rattle.mpy_merge.specs.Numbers.{number_of, name_of, place_of}
use Rattle.mpy_endings.specs.Line.{tag_text}
use Rattle.mpy_endings.proofs.Said.{cut_first, cut_second, cut_third, all_four}
use Rattle.mpy_endings.proofs.line.say_unmerged.Goals as goal

pub returns-in_err-put : goal.returns-in_err-put
returns-in_err-put g c =
    let head = codes "mpy: merge " in
    let what = decimal (number_of c.args.fault) ++ codes " " ++ name_of c.args.fault in
    let failed = err_from_is_err_and c.from_residual.result c.from_residual.ensures.1 in
    rw failed.1 (cut_first (g.E.Sink.told c.args.say.now) (g.E.Sink.told c.put.new.say) (g.E.Sink.count c.args.say.now) (g.E.Sink.count c.put.new.say) head head what (tag_text (place_of c.args.fault)) (codes "\n") failed.0 refl c.in_err-put.ensures)

pub returns-in_err-put_merge_fault : goal.returns-in_err-put_merge_fault
returns-in_err-put_merge_fault g c =
    let head = codes "mpy: merge " in
    let what = decimal (number_of c.args.fault) ++ codes " " ++ name_of c.args.fault in
    let failed = err_from_is_err_and c.from_residual-in_err-put_merge_fault.result c.from_residual-in_err-put_merge_fault.ensures.1 in
    rw failed.1 (cut_second (g.E.Sink.told c.args.say.now) (g.E.Sink.told c.put.new.say) (g.E.Sink.told c.put_merge_fault.new.say) (g.E.Sink.count c.args.say.now) (g.E.Sink.count c.put.new.say) (g.E.Sink.count c.put_merge_fault.new.say) head head what what (tag_text (place_of c.args.fault)) (codes "\n") c.in_ok-put.field-0 failed.0 refl refl c.in_ok-put.ensures c.in_err-put_merge_fault.ensures)

pub returns-in_err-put_place : goal.returns-in_err-put_place
returns-in_err-put_place g c =
    let head = codes "mpy: merge " in
    let what = decimal (number_of c.args.fault) ++ codes " " ++ name_of c.args.fault in
    let failed = err_from_is_err_and c.from_residual-in_err-put_place.result c.from_residual-in_err-put_place.ensures.1 in
    rw failed.1 (cut_third (g.E.Sink.told c.args.say.now) (g.E.Sink.told c.put.new.say) (g.E.Sink.told c.put_merge_fault.new.say) (g.E.Sink.told c.put_place.new.say) (g.E.Sink.count c.args.say.now) (g.E.Sink.count c.put.new.say) (g.E.Sink.count c.put_merge_fault.new.say) (g.E.Sink.count c.put_place.new.say) head head what what (tag_text c.place.result) (tag_text (place_of c.args.fault)) (codes "\n") c.in_ok-put.field-0 c.in_ok-put_merge_fault.field-0 failed.0 refl refl (ap tag_text c.place.ensures) c.in_ok-put.ensures c.in_ok-put_merge_fault.ensures c.in_err-put_place.ensures)

pub returns : goal.returns
returns g c =
    let head = codes "mpy: merge " in
    let what = decimal (number_of c.args.fault) ++ codes " " ++ name_of c.args.fault in
    all_four (g.E.Sink.told c.args.say.now) (g.E.Sink.told c.put.new.say) (g.E.Sink.told c.put_merge_fault.new.say) (g.E.Sink.told c.put_place.new.say) (g.E.Sink.told c.put-2.new.say) (g.E.Sink.count c.args.say.now) (g.E.Sink.count c.put.new.say) (g.E.Sink.count c.put_merge_fault.new.say) (g.E.Sink.count c.put_place.new.say) (g.E.Sink.count c.put-2.new.say) head head what what (tag_text c.place.result) (tag_text (place_of c.args.fault)) (codes "\n") (codes "\n") c.in_ok-put.field-0 c.in_ok-put_merge_fault.field-0 c.in_ok-put_place.field-0 c.put-2.result refl refl (ap tag_text c.place.ensures) refl c.in_ok-put.ensures c.in_ok-put_merge_fault.ensures c.in_ok-put_place.ensures c.put-2.ensures
