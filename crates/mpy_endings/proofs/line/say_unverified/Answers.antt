use Rattle.std.proofs.Common.{◌≡◌, ℕ, List, ◌++◌, codes, decimal, refl, ap}
use Rattle.std.proofs.lemmas.Result.{err_from_is_err_and}
use Rattle.bc_verify.specs.Rule.{number_of, name_of}
use Rattle.mpy_endings.specs.Line.{path_text}
use Rattle.mpy_endings.proofs.Said.{cut_first, cut_second, cut_third, all_four}
use Rattle.mpy_endings.proofs.line.say_unverified.Goals as goal

pub returns-in_err-put_head : goal.returns-in_err-put_head
returns-in_err-put_head g c =
    let fault = c.args.fault.now in
    let head = codes "mpy: " ++ c.args.name.now ++ codes ": verify " in
    let what = decimal (number_of fault.rule) ++ codes " " ++ name_of fault.rule in
    let where_ = codes " code " ++ path_text fault.path in
    let place = codes " offset " ++ decimal fault.offset ++ codes "\n" in
    let failed = err_from_is_err_and c.from_residual.result c.from_residual.ensures.1 in
    rw failed.1 (cut_first (g.E.Sink.told c.args.say.now) (g.E.Sink.told c.put_head.new.say) (g.E.Sink.count c.args.say.now) (g.E.Sink.count c.put_head.new.say) head head what where_ place failed.0 refl c.in_err-put_head.ensures)

pub returns-in_err-put_rule : goal.returns-in_err-put_rule
returns-in_err-put_rule g c =
    let fault = c.args.fault.now in
    let head = codes "mpy: " ++ c.args.name.now ++ codes ": verify " in
    let what = decimal (number_of fault.rule) ++ codes " " ++ name_of fault.rule in
    let where_ = codes " code " ++ path_text fault.path in
    let place = codes " offset " ++ decimal fault.offset ++ codes "\n" in
    let failed = err_from_is_err_and c.from_residual-in_err-put_rule.result c.from_residual-in_err-put_rule.ensures.1 in
    rw failed.1 (cut_second (g.E.Sink.told c.args.say.now) (g.E.Sink.told c.put_head.new.say) (g.E.Sink.told c.put_rule.new.say) (g.E.Sink.count c.args.say.now) (g.E.Sink.count c.put_head.new.say) (g.E.Sink.count c.put_rule.new.say) head head what what where_ place c.in_ok-put_head.field-0 failed.0 refl refl c.in_ok-put_head.ensures c.in_err-put_rule.ensures)

pub returns-in_err-put_code : goal.returns-in_err-put_code
returns-in_err-put_code g c =
    let fault = c.args.fault.now in
    let head = codes "mpy: " ++ c.args.name.now ++ codes ": verify " in
    let what = decimal (number_of fault.rule) ++ codes " " ++ name_of fault.rule in
    let where_ = codes " code " ++ path_text fault.path in
    let place = codes " offset " ++ decimal fault.offset ++ codes "\n" in
    let here : codes " code " ++ path_text c.as_slice.result.now ≡ where_ = ap (λ (path : List ℕ). codes " code " ++ path_text path) c.as_slice.ensures in
    let failed = err_from_is_err_and c.from_residual-in_err-put_code.result c.from_residual-in_err-put_code.ensures.1 in
    rw failed.1 (cut_third (g.E.Sink.told c.args.say.now) (g.E.Sink.told c.put_head.new.say) (g.E.Sink.told c.put_rule.new.say) (g.E.Sink.told c.put_code.new.say) (g.E.Sink.count c.args.say.now) (g.E.Sink.count c.put_head.new.say) (g.E.Sink.count c.put_rule.new.say) (g.E.Sink.count c.put_code.new.say) head head what what (codes " code " ++ path_text c.as_slice.result.now) where_ place c.in_ok-put_head.field-0 c.in_ok-put_rule.field-0 failed.0 refl refl here c.in_ok-put_head.ensures c.in_ok-put_rule.ensures c.in_err-put_code.ensures)

pub returns : goal.returns
returns g c =
    let fault = c.args.fault.now in
    let head = codes "mpy: " ++ c.args.name.now ++ codes ": verify " in
    let what = decimal (number_of fault.rule) ++ codes " " ++ name_of fault.rule in
    let where_ = codes " code " ++ path_text fault.path in
    let place = codes " offset " ++ decimal fault.offset ++ codes "\n" in
    let here : codes " code " ++ path_text c.as_slice.result.now ≡ where_ = ap (λ (path : List ℕ). codes " code " ++ path_text path) c.as_slice.ensures in
    all_four (g.E.Sink.told c.args.say.now) (g.E.Sink.told c.put_head.new.say) (g.E.Sink.told c.put_rule.new.say) (g.E.Sink.told c.put_code.new.say) (g.E.Sink.told c.put_offset.new.say) (g.E.Sink.count c.args.say.now) (g.E.Sink.count c.put_head.new.say) (g.E.Sink.count c.put_rule.new.say) (g.E.Sink.count c.put_code.new.say) (g.E.Sink.count c.put_offset.new.say) head head what what (codes " code " ++ path_text c.as_slice.result.now) where_ place place c.in_ok-put_head.field-0 c.in_ok-put_rule.field-0 c.in_ok-put_code.field-0 c.put_offset.result refl refl here refl c.in_ok-put_head.ensures c.in_ok-put_rule.ensures c.in_ok-put_code.ensures c.put_offset.ensures
