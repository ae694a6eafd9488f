use Rattle.std.proofs.Common.{◌≡◌, ◌++◌, ℕ, List, Option, codes, decimal, refl, ap, ◌∙◌}
use Rattle.std.proofs.lemmas.Result.{err_from_is_err_and}
use Rattle.manifest_files.specs.image_grammar.Fault.{number_of, name_of, index_of}
use Rattle.mpy_endings.specs.Line.{spaced, tag_text, image_word}
use Rattle.mpy_endings.proofs.Said.{cut_first, cut_second, cut_third, all_four}
use Rattle.mpy_endings.proofs.freezing.say_modules.Goals as goal

pub returns-in_err-put : goal.returns-in_err-put
returns-in_err-put g c =
    let head = codes "mpy: image " in
    let failed = err_from_is_err_and c.from_residual.result c.from_residual.ensures.1 in
    rw failed.1 (cut_first (g.E.Sink.told c.args.say.now) (g.E.Sink.told c.put.new.say) (g.E.Sink.count c.args.say.now) (g.E.Sink.count c.put.new.say) head head (decimal (number_of c.args.fault.now) ++ codes " " ++ name_of c.args.fault.now) (tag_text (index_of c.args.fault.now)) (spaced (image_word c.args.fault.now) ++ codes "\n") failed.0 refl c.in_err-put.ensures)

pub returns-in_err-put_numbered : goal.returns-in_err-put_numbered
returns-in_err-put_numbered g c =
    let head = codes "mpy: image " in
    let called = decimal c.number.result ++ codes " " ++ c.name.result.now in
    let what = decimal (number_of c.args.fault.now) ++ codes " " ++ name_of c.args.fault.now in
    let same : called ≡ what = ap (λ (n : ℕ). decimal n ++ codes " " ++ c.name.result.now) c.number.ensures ∙ ap (λ (name : List ℕ). decimal (number_of c.args.fault.now) ++ codes " " ++ name) c.name.ensures in
    let failed = err_from_is_err_and c.from_residual-in_err-put_numbered.result c.from_residual-in_err-put_numbered.ensures.1 in
    rw failed.1 (cut_second (g.E.Sink.told c.args.say.now) (g.E.Sink.told c.put.new.say) (g.E.Sink.told c.put_numbered.new.say) (g.E.Sink.count c.args.say.now) (g.E.Sink.count c.put.new.say) (g.E.Sink.count c.put_numbered.new.say) head head called what (tag_text (index_of c.args.fault.now)) (spaced (image_word c.args.fault.now) ++ codes "\n") c.in_ok-put.field-0 failed.0 refl same c.in_ok-put.ensures c.in_err-put_numbered.ensures)

pub returns-in_err-put_index : goal.returns-in_err-put_index
returns-in_err-put_index g c =
    let head = codes "mpy: image " in
    let called = decimal c.number.result ++ codes " " ++ c.name.result.now in
    let what = decimal (number_of c.args.fault.now) ++ codes " " ++ name_of c.args.fault.now in
    let same : called ≡ what = ap (λ (n : ℕ). decimal n ++ codes " " ++ c.name.result.now) c.number.ensures ∙ ap (λ (name : List ℕ). decimal (number_of c.args.fault.now) ++ codes " " ++ name) c.name.ensures in
    let third = tag_text (index_of c.args.fault.now) in
    let third_same : tag_text c.index.result ≡ third = ap tag_text c.index.ensures in
    let failed = err_from_is_err_and c.from_residual-in_err-put_index.result c.from_residual-in_err-put_index.ensures.1 in
    rw failed.1 (cut_third (g.E.Sink.told c.args.say.now) (g.E.Sink.told c.put.new.say) (g.E.Sink.told c.put_numbered.new.say) (g.E.Sink.told c.put_index.new.say) (g.E.Sink.count c.args.say.now) (g.E.Sink.count c.put.new.say) (g.E.Sink.count c.put_numbered.new.say) (g.E.Sink.count c.put_index.new.say) head head called what (tag_text c.index.result) third (spaced (image_word c.args.fault.now) ++ codes "\n") c.in_ok-put.field-0 c.in_ok-put_numbered.field-0 failed.0 refl same third_same c.in_ok-put.ensures c.in_ok-put_numbered.ensures c.in_err-put_index.ensures)

pub returns : goal.returns
returns g c =
    let head = codes "mpy: image " in
    let called = decimal c.number.result ++ codes " " ++ c.name.result.now in
    let what = decimal (number_of c.args.fault.now) ++ codes " " ++ name_of c.args.fault.now in
    let same : called ≡ what = ap (λ (n : ℕ). decimal n ++ codes " " ++ c.name.result.now) c.number.ensures ∙ ap (λ (name : List ℕ). decimal (number_of c.args.fault.now) ++ codes " " ++ name) c.name.ensures in
    let third = tag_text (index_of c.args.fault.now) in
    let third_same : tag_text c.index.result ≡ third = ap tag_text c.index.ensures in
    all_four (g.E.Sink.told c.args.say.now) (g.E.Sink.told c.put.new.say) (g.E.Sink.told c.put_numbered.new.say) (g.E.Sink.told c.put_index.new.say) (g.E.Sink.told c.put_last_word.new.say) (g.E.Sink.count c.args.say.now) (g.E.Sink.count c.put.new.say) (g.E.Sink.count c.put_numbered.new.say) (g.E.Sink.count c.put_index.new.say) (g.E.Sink.count c.put_last_word.new.say) head head called what (tag_text c.index.result) third (spaced c.image_word.result.now ++ codes "\n") (spaced (image_word c.args.fault.now) ++ codes "\n")
    c.in_ok-put.field-0 c.in_ok-put_numbered.field-0 c.in_ok-put_index.field-0 c.put_last_word.result refl same third_same (ap (λ (word : List ℕ). spaced word ++ codes "\n") c.image_word.ensures) c.in_ok-put.ensures c.in_ok-put_numbered.ensures c.in_ok-put_index.ensures c.put_last_word.ensures
