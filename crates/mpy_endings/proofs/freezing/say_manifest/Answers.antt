use Rattle.std.proofs.Common.{◌≡◌, ◌++◌, ℕ, List, Option, option_copied, codes, decimal, refl, ap, ◌∙◌}
use Rattle.std.proofs.lemmas.Result.{err_from_is_err_and}
use Rattle.manifest_files.specs.Faults.{number_of, name_of}
use Rattle.mpy_endings.specs.Line.{spaced, tag_text, manifest_word, manifest_number}
use Rattle.mpy_endings.proofs.Said.{cut_first, cut_second, cut_third, all_four}
use Rattle.mpy_endings.proofs.freezing.say_manifest.Goals as goal

pub returns-in_err-put_head : goal.returns-in_err-put_head
returns-in_err-put_head g c =
    let head = codes "mpy: " ++ c.args.name.now ++ codes ": manifest " in
    let failed = err_from_is_err_and c.from_residual.result c.from_residual.ensures.1 in
    rw failed.1 (cut_first (g.E.Sink.told c.args.say.now) (g.E.Sink.told c.put_head.new.say) (g.E.Sink.count c.args.say.now) (g.E.Sink.count c.put_head.new.say) head head (decimal (number_of c.args.fault.now) ++ codes " " ++ name_of c.args.fault.now) (spaced (manifest_word c.args.fault.now)) (tag_text (manifest_number c.args.fault.now) ++ codes "\n") failed.0 refl c.in_err-put_head.ensures)

pub returns-in_err-put_numbered : goal.returns-in_err-put_numbered
returns-in_err-put_numbered g c =
    let head = codes "mpy: " ++ c.args.name.now ++ codes ": manifest " in
    let called = decimal c.number.result ++ codes " " ++ c.name.result.now in
    let what = decimal (number_of c.args.fault.now) ++ codes " " ++ name_of c.args.fault.now in
    let same : called ≡ what = ap (λ (n : ℕ). decimal n ++ codes " " ++ c.name.result.now) c.number.ensures ∙ ap (λ (name : List ℕ). decimal (number_of c.args.fault.now) ++ codes " " ++ name) c.name.ensures in
    let failed = err_from_is_err_and c.from_residual-in_err-put_numbered.result c.from_residual-in_err-put_numbered.ensures.1 in
    rw failed.1 (cut_second (g.E.Sink.told c.args.say.now) (g.E.Sink.told c.put_head.new.say) (g.E.Sink.told c.put_numbered.new.say) (g.E.Sink.count c.args.say.now) (g.E.Sink.count c.put_head.new.say) (g.E.Sink.count c.put_numbered.new.say) head head called what (spaced (manifest_word c.args.fault.now)) (tag_text (manifest_number c.args.fault.now) ++ codes "\n") c.in_ok-put_head.field-0 failed.0 refl same c.in_ok-put_head.ensures c.in_err-put_numbered.ensures)

pub returns-in_err-put_word : goal.returns-in_err-put_word
returns-in_err-put_word g c =
    let head = codes "mpy: " ++ c.args.name.now ++ codes ": manifest " in
    let called = decimal c.number.result ++ codes " " ++ c.name.result.now in
    let what = decimal (number_of c.args.fault.now) ++ codes " " ++ name_of c.args.fault.now in
    let same : called ≡ what = ap (λ (n : ℕ). decimal n ++ codes " " ++ c.name.result.now) c.number.ensures ∙ ap (λ (name : List ℕ). decimal (number_of c.args.fault.now) ++ codes " " ++ name) c.name.ensures in
    let third = spaced (manifest_word c.args.fault.now) in
    let third_same : spaced c.manifest_word.result.now ≡ third = ap spaced c.manifest_word.ensures in
    let failed = err_from_is_err_and c.from_residual-in_err-put_word.result c.from_residual-in_err-put_word.ensures.1 in
    rw failed.1 (cut_third (g.E.Sink.told c.args.say.now) (g.E.Sink.told c.put_head.new.say) (g.E.Sink.told c.put_numbered.new.say) (g.E.Sink.told c.put_word.new.say) (g.E.Sink.count c.args.say.now) (g.E.Sink.count c.put_head.new.say) (g.E.Sink.count c.put_numbered.new.say) (g.E.Sink.count c.put_word.new.say) head head called what (spaced c.manifest_word.result.now) third (tag_text (manifest_number c.args.fault.now) ++ codes "\n") c.in_ok-put_head.field-0 c.in_ok-put_numbered.field-0 failed.0 refl same third_same c.in_ok-put_head.ensures c.in_ok-put_numbered.ensures c.in_err-put_word.ensures)

pub returns : goal.returns
returns g c =
    let head = codes "mpy: " ++ c.args.name.now ++ codes ": manifest " in
    let called = decimal c.number.result ++ codes " " ++ c.name.result.now in
    let what = decimal (number_of c.args.fault.now) ++ codes " " ++ name_of c.args.fault.now in
    let same : called ≡ what = ap (λ (n : ℕ). decimal n ++ codes " " ++ c.name.result.now) c.number.ensures ∙ ap (λ (name : List ℕ). decimal (number_of c.args.fault.now) ++ codes " " ++ name) c.name.ensures in
    let third = spaced (manifest_word c.args.fault.now) in
    let third_same : spaced c.manifest_word.result.now ≡ third = ap spaced c.manifest_word.ensures in
    all_four (g.E.Sink.told c.args.say.now) (g.E.Sink.told c.put_head.new.say) (g.E.Sink.told c.put_numbered.new.say) (g.E.Sink.told c.put_word.new.say) (g.E.Sink.told c.put_last_index.new.say) (g.E.Sink.count c.args.say.now) (g.E.Sink.count c.put_head.new.say) (g.E.Sink.count c.put_numbered.new.say) (g.E.Sink.count c.put_word.new.say) (g.E.Sink.count c.put_last_index.new.say) head head called what (spaced c.manifest_word.result.now) third (tag_text c.manifest_number.result ++ codes "\n") (tag_text (manifest_number c.args.fault.now) ++ codes "\n")
    c.in_ok-put_head.field-0 c.in_ok-put_numbered.field-0 c.in_ok-put_word.field-0 c.put_last_index.result refl same third_same (ap (λ (n : Option ℕ). tag_text n ++ codes "\n") c.manifest_number.ensures) c.in_ok-put_head.ensures c.in_ok-put_numbered.ensures c.in_ok-put_word.ensures c.put_last_index.ensures
