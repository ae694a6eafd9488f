use Rattle.std.proofs.Common.{◌≡◌, ℕ, List, ◌++◌, codes, decimal, refl, ap, ◌∙◌}
use Rattle.std.proofs.lemmas.Result.{err_from_is_err_and}
use Rattle.mpy_base.specs.Source.{number_of, name_of}
use Rattle.mpy_endings.specs.Line.{spaced}
use Rattle.mpy_endings.proofs.Said.{cut_first, cut_second, cut_third, all_four}
use Rattle.mpy_endings.proofs.line.say_fault.Goals as goal

pub returns-in_err-put_three : goal.returns-in_err-put_three
returns-in_err-put_three g c =
    let name = c.args.name.now in
    let fault = c.args.fault.now in
    let failed = err_from_is_err_and c.from_residual.result c.from_residual.ensures.1 in
    rw failed.1 (cut_first (g.E.Sink.told c.args.say.now) (g.E.Sink.told c.put_three.new.say) (g.E.Sink.count c.args.say.now) (g.E.Sink.count c.put_three.new.say) (codes "mpy: " ++ name ++ codes ": source ") (codes "mpy: " ++ name ++ codes ": source ") (decimal (number_of fault.code) ++ codes " " ++ name_of fault.code) (spaced fault.word ++ codes " line ") (decimal fault.line ++ codes "\n") failed.0 refl c.in_err-put_three.ensures)

pub returns-in_err-put_three-2 : goal.returns-in_err-put_three-2
returns-in_err-put_three-2 g c =
    let name = c.args.name.now in
    let fault = c.args.fault.now in
    let number : c.as_bytes-number.result.now ≡ decimal (number_of fault.code) = c.as_bytes-number.ensures.value ∙ (c.format.ensures.text ∙ ap decimal c.number.ensures) in
    let code : c.as_bytes.result.now ≡ name_of fault.code = c.as_bytes.ensures.value ∙ c.name.ensures in
    let what : (c.as_bytes-number.result.now ++ codes " " ++ c.as_bytes.result.now) ≡ (decimal (number_of fault.code) ++ codes " " ++ name_of fault.code) = ap (λ (bs : List ℕ). bs ++ codes " " ++ c.as_bytes.result.now) number ∙ ap (λ (bs : List ℕ). decimal (number_of fault.code) ++ codes " " ++ bs) code in
    let failed = err_from_is_err_and c.from_residual-in_err-put_three-2.result c.from_residual-in_err-put_three-2.ensures.1 in
    rw failed.1 (cut_second (g.E.Sink.told c.args.say.now) (g.E.Sink.told c.put_three.new.say) (g.E.Sink.told c.put_three-2.new.say) (g.E.Sink.count c.args.say.now) (g.E.Sink.count c.put_three.new.say) (g.E.Sink.count c.put_three-2.new.say) (codes "mpy: " ++ name ++ codes ": source ") (codes "mpy: " ++ name ++ codes ": source ") (c.as_bytes-number.result.now ++ codes " " ++ c.as_bytes.result.now) (decimal (number_of fault.code) ++ codes " " ++ name_of fault.code) (spaced fault.word ++ codes " line ") (decimal fault.line ++ codes "\n") c.in_ok-put_three.field-0 failed.0 refl what c.in_ok-put_three.ensures c.in_err-put_three-2.ensures)

pub returns-in_err-put_three-3 : goal.returns-in_err-put_three-3
returns-in_err-put_three-3 g c =
    let name = c.args.name.now in
    let fault = c.args.fault.now in
    let number : c.as_bytes-number.result.now ≡ decimal (number_of fault.code) = c.as_bytes-number.ensures.value ∙ (c.format.ensures.text ∙ ap decimal c.number.ensures) in
    let code : c.as_bytes.result.now ≡ name_of fault.code = c.as_bytes.ensures.value ∙ c.name.ensures in
    let what : (c.as_bytes-number.result.now ++ codes " " ++ c.as_bytes.result.now) ≡ (decimal (number_of fault.code) ++ codes " " ++ name_of fault.code) = ap (λ (bs : List ℕ). bs ++ codes " " ++ c.as_bytes.result.now) number ∙ ap (λ (bs : List ℕ). decimal (number_of fault.code) ++ codes " " ++ bs) code in
    let word : c.gap.result.now ++ c.bytes-word.result.now ≡ spaced fault.word = c.gap.ensures ∙ ap spaced c.bytes-word.ensures in
    let which : (c.gap.result.now ++ c.bytes-word.result.now ++ codes " line ") ≡ (spaced fault.word ++ codes " line ") = ap (λ (bs : List ℕ). bs ++ codes " line ") word in
    let failed = err_from_is_err_and c.from_residual-in_err-put_three-3.result c.from_residual-in_err-put_three-3.ensures.1 in
    rw failed.1 (cut_third (g.E.Sink.told c.args.say.now) (g.E.Sink.told c.put_three.new.say) (g.E.Sink.told c.put_three-2.new.say) (g.E.Sink.told c.put_three-3.new.say) (g.E.Sink.count c.args.say.now) (g.E.Sink.count c.put_three.new.say) (g.E.Sink.count c.put_three-2.new.say) (g.E.Sink.count c.put_three-3.new.say) (codes "mpy: " ++ name ++ codes ": source ") (codes "mpy: " ++ name ++ codes ": source ") (c.as_bytes-number.result.now ++ codes " " ++ c.as_bytes.result.now) (decimal (number_of fault.code) ++ codes " " ++ name_of fault.code) (c.gap.result.now ++ c.bytes-word.result.now ++ codes " line ") (spaced fault.word ++ codes " line ") (decimal fault.line ++ codes "\n") c.in_ok-put_three.field-0 c.in_ok-put_three-2.field-0 failed.0 refl what which c.in_ok-put_three.ensures c.in_ok-put_three-2.ensures c.in_err-put_three-3.ensures)

pub returns : goal.returns
returns g c =
    let name = c.args.name.now in
    let fault = c.args.fault.now in
    let number : c.as_bytes-number.result.now ≡ decimal (number_of fault.code) = c.as_bytes-number.ensures.value ∙ (c.format.ensures.text ∙ ap decimal c.number.ensures) in
    let code : c.as_bytes.result.now ≡ name_of fault.code = c.as_bytes.ensures.value ∙ c.name.ensures in
    let what : (c.as_bytes-number.result.now ++ codes " " ++ c.as_bytes.result.now) ≡ (decimal (number_of fault.code) ++ codes " " ++ name_of fault.code) = ap (λ (bs : List ℕ). bs ++ codes " " ++ c.as_bytes.result.now) number ∙ ap (λ (bs : List ℕ). decimal (number_of fault.code) ++ codes " " ++ bs) code in
    let word : c.gap.result.now ++ c.bytes-word.result.now ≡ spaced fault.word = c.gap.ensures ∙ ap spaced c.bytes-word.ensures in
    let which : (c.gap.result.now ++ c.bytes-word.result.now ++ codes " line ") ≡ (spaced fault.word ++ codes " line ") = ap (λ (bs : List ℕ). bs ++ codes " line ") word in
    let line : (c.as_bytes-line.result.now ++ codes "\n") ≡ (decimal fault.line ++ codes "\n") = ap (λ (bs : List ℕ). bs ++ codes "\n") (c.as_bytes-line.ensures.value ∙ c.format-2.ensures.text) in
    all_four (g.E.Sink.told c.args.say.now) (g.E.Sink.told c.put_three.new.say) (g.E.Sink.told c.put_three-2.new.say) (g.E.Sink.told c.put_three-3.new.say) (g.E.Sink.told c.put_two.new.say) (g.E.Sink.count c.args.say.now) (g.E.Sink.count c.put_three.new.say) (g.E.Sink.count c.put_three-2.new.say) (g.E.Sink.count c.put_three-3.new.say) (g.E.Sink.count c.put_two.new.say) (codes "mpy: " ++ name ++ codes ": source ") (codes "mpy: " ++ name ++ codes ": source ") (c.as_bytes-number.result.now ++ codes " " ++ c.as_bytes.result.now) (decimal (number_of fault.code) ++ codes " " ++ name_of fault.code) (c.gap.result.now ++ c.bytes-word.result.now ++ codes " line ") (spaced fault.word ++ codes " line ") (c.as_bytes-line.result.now ++ codes "\n") (decimal fault.line ++ codes "\n") c.in_ok-put_three.field-0 c.in_ok-put_three-2.field-0 c.in_ok-put_three-3.field-0 c.put_two.result refl what which line c.in_ok-put_three.ensures c.in_ok-put_three-2.ensures c.in_ok-put_three-3.ensures c.put_two.ensures
