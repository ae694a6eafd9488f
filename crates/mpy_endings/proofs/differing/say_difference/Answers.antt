use Rattle.std.proofs.Common.{◌≡◌, ℕ, List, ◌++◌, codes, decimal, refl, ap}
use Rattle.std.proofs.lemmas.Result.{err_from_is_err_and}
use Rattle.trans_parts.specs.Names.{name_of}
use Rattle.mpy_endings.specs.Line.{path_text}
use Rattle.mpy_endings.proofs.Said.{cut_first, cut_second, cut_third, all_four}
use Rattle.mpy_endings.proofs.differing.say_difference.Goals as goal

pub returns-in_err-put_head : goal.returns-in_err-put_head
returns-in_err-put_head g c =
    let difference = c.args.difference.now in
    let head = codes "mpy: " ++ c.args.name.now ++ codes ": differs" in
    let where_ = codes " code " ++ path_text difference.path in
    let what = codes " " ++ name_of difference.what ++ codes " " in
    let place = decimal difference.at ++ codes "\n" in
    let failed = err_from_is_err_and c.from_residual.result c.from_residual.ensures.1 in
    rw failed.1 (cut_first (g.E.Sink.told c.args.say.now) (g.E.Sink.told c.put_head.new.say) (g.E.Sink.count c.args.say.now) (g.E.Sink.count c.put_head.new.say) head head where_ what place failed.0 refl c.in_err-put_head.ensures)

pub returns-in_err-put_code : goal.returns-in_err-put_code
returns-in_err-put_code g c =
    let difference = c.args.difference.now in
    let head = codes "mpy: " ++ c.args.name.now ++ codes ": differs" in
    let where_ = codes " code " ++ path_text difference.path in
    let what = codes " " ++ name_of difference.what ++ codes " " in
    let place = decimal difference.at ++ codes "\n" in
    let here : codes " code " ++ path_text c.as_slice.result.now ≡ where_ = ap (λ (path : List ℕ). codes " code " ++ path_text path) c.as_slice.ensures in
    let failed = err_from_is_err_and c.from_residual-in_err-put_code.result c.from_residual-in_err-put_code.ensures.1 in
    rw failed.1 (cut_second (g.E.Sink.told c.args.say.now) (g.E.Sink.told c.put_head.new.say) (g.E.Sink.told c.put_code.new.say) (g.E.Sink.count c.args.say.now) (g.E.Sink.count c.put_head.new.say) (g.E.Sink.count c.put_code.new.say) head head (codes " code " ++ path_text c.as_slice.result.now) where_ what place c.in_ok-put_head.field-0 failed.0 refl here c.in_ok-put_head.ensures c.in_err-put_code.ensures)

pub returns-in_err-put_part : goal.returns-in_err-put_part
returns-in_err-put_part g c =
    let difference = c.args.difference.now in
    let head = codes "mpy: " ++ c.args.name.now ++ codes ": differs" in
    let where_ = codes " code " ++ path_text difference.path in
    let what = codes " " ++ name_of difference.what ++ codes " " in
    let place = decimal difference.at ++ codes "\n" in
    let here : codes " code " ++ path_text c.as_slice.result.now ≡ where_ = ap (λ (path : List ℕ). codes " code " ++ path_text path) c.as_slice.ensures in
    let failed = err_from_is_err_and c.from_residual-in_err-put_part.result c.from_residual-in_err-put_part.ensures.1 in
    rw failed.1 (cut_third (g.E.Sink.told c.args.say.now) (g.E.Sink.told c.put_head.new.say) (g.E.Sink.told c.put_code.new.say) (g.E.Sink.told c.put_part.new.say) (g.E.Sink.count c.args.say.now) (g.E.Sink.count c.put_head.new.say) (g.E.Sink.count c.put_code.new.say) (g.E.Sink.count c.put_part.new.say) head head (codes " code " ++ path_text c.as_slice.result.now) where_ what what place c.in_ok-put_head.field-0 c.in_ok-put_code.field-0 failed.0 refl here refl c.in_ok-put_head.ensures c.in_ok-put_code.ensures c.in_err-put_part.ensures)

pub returns : goal.returns
returns g c =
    let difference = c.args.difference.now in
    let head = codes "mpy: " ++ c.args.name.now ++ codes ": differs" in
    let where_ = codes " code " ++ path_text difference.path in
    let what = codes " " ++ name_of difference.what ++ codes " " in
    let place = decimal difference.at ++ codes "\n" in
    let here : codes " code " ++ path_text c.as_slice.result.now ≡ where_ = ap (λ (path : List ℕ). codes " code " ++ path_text path) c.as_slice.ensures in
    all_four (g.E.Sink.told c.args.say.now) (g.E.Sink.told c.put_head.new.say) (g.E.Sink.told c.put_code.new.say) (g.E.Sink.told c.put_part.new.say) (g.E.Sink.told c.put_position.new.say) (g.E.Sink.count c.args.say.now) (g.E.Sink.count c.put_head.new.say) (g.E.Sink.count c.put_code.new.say) (g.E.Sink.count c.put_part.new.say) (g.E.Sink.count c.put_position.new.say) head head (codes " code " ++ path_text c.as_slice.result.now) where_ what what place place c.in_ok-put_head.field-0 c.in_ok-put_code.field-0 c.in_ok-put_part.field-0 c.put_position.result refl here refl refl c.in_ok-put_head.ensures c.in_ok-put_code.ensures c.in_ok-put_part.ensures c.put_position.ensures
