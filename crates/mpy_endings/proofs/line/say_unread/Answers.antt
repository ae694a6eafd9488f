use Rattle.std.proofs.Common.{◌++◌, codes, decimal, refl, ap}
use Rattle.std.proofs.lemmas.Result.{err_from_is_err_and}
use Rattle.image_runs.specs.library_files.mpy_reader.Fault.{number_of, name_of, tag_of}
use Rattle.mpy_endings.specs.Line.{tag_text}
use Rattle.mpy_endings.proofs.Said.{cut_first, cut_second, cut_third, all_four}
use Rattle.mpy_endings.proofs.line.say_unread.Goals as goal

pub returns-in_err-put_head : goal.returns-in_err-put_head
returns-in_err-put_head g c =
    let head = codes "mpy: " ++ c.args.name.now ++ codes ": file " in
    let what = decimal (number_of c.args.fault) ++ codes " " ++ name_of c.args.fault in
    let failed = err_from_is_err_and c.from_residual.result c.from_residual.ensures.1 in
    rw failed.1 (cut_first (g.E.Sink.told c.args.say.now) (g.E.Sink.told c.put_head.new.say) (g.E.Sink.count c.args.say.now) (g.E.Sink.count c.put_head.new.say) head head what (tag_text (tag_of c.args.fault)) (codes "\n") failed.0 refl c.in_err-put_head.ensures)

pub returns-in_err-put_fault : goal.returns-in_err-put_fault
returns-in_err-put_fault g c =
    let head = codes "mpy: " ++ c.args.name.now ++ codes ": file " in
    let what = decimal (number_of c.args.fault) ++ codes " " ++ name_of c.args.fault in
    let failed = err_from_is_err_and c.from_residual-in_err-put_fault.result c.from_residual-in_err-put_fault.ensures.1 in
    rw failed.1 (cut_second (g.E.Sink.told c.args.say.now) (g.E.Sink.told c.put_head.new.say) (g.E.Sink.told c.put_fault.new.say) (g.E.Sink.count c.args.say.now) (g.E.Sink.count c.put_head.new.say) (g.E.Sink.count c.put_fault.new.say) head head what what (tag_text (tag_of c.args.fault)) (codes "\n") c.in_ok-put_head.field-0 failed.0 refl refl c.in_ok-put_head.ensures c.in_err-put_fault.ensures)

pub returns-in_err-put_tag : goal.returns-in_err-put_tag
returns-in_err-put_tag g c =
    let head = codes "mpy: " ++ c.args.name.now ++ codes ": file " in
    let what = decimal (number_of c.args.fault) ++ codes " " ++ name_of c.args.fault in
    let failed = err_from_is_err_and c.from_residual-in_err-put_tag.result c.from_residual-in_err-put_tag.ensures.1 in
    rw failed.1 (cut_third (g.E.Sink.told c.args.say.now) (g.E.Sink.told c.put_head.new.say) (g.E.Sink.told c.put_fault.new.say) (g.E.Sink.told c.put_tag.new.say) (g.E.Sink.count c.args.say.now) (g.E.Sink.count c.put_head.new.say) (g.E.Sink.count c.put_fault.new.say) (g.E.Sink.count c.put_tag.new.say) head head what what (tag_text c.tag.result) (tag_text (tag_of c.args.fault)) (codes "\n") c.in_ok-put_head.field-0 c.in_ok-put_fault.field-0 failed.0 refl refl (ap tag_text c.tag.ensures) c.in_ok-put_head.ensures c.in_ok-put_fault.ensures c.in_err-put_tag.ensures)

pub returns : goal.returns
returns g c =
    let head = codes "mpy: " ++ c.args.name.now ++ codes ": file " in
    let what = decimal (number_of c.args.fault) ++ codes " " ++ name_of c.args.fault in
    all_four (g.E.Sink.told c.args.say.now) (g.E.Sink.told c.put_head.new.say) (g.E.Sink.told c.put_fault.new.say) (g.E.Sink.told c.put_tag.new.say) (g.E.Sink.told c.put.new.say) (g.E.Sink.count c.args.say.now) (g.E.Sink.count c.put_head.new.say) (g.E.Sink.count c.put_fault.new.say) (g.E.Sink.count c.put_tag.new.say) (g.E.Sink.count c.put.new.say) head head what what (tag_text c.tag.result) (tag_text (tag_of c.args.fault)) (codes "\n") (codes "\n") c.in_ok-put_head.field-0 c.in_ok-put_fault.field-0 c.in_ok-put_tag.field-0 c.put.result refl refl (ap tag_text c.tag.ensures) refl c.in_ok-put_head.ensures c.in_ok-put_fault.ensures c.in_ok-put_tag.ensures c.put.ensures
