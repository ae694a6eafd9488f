use Rattle.std.proofs.Common.{◌≡◌, ℕ, List, ◌++◌, map, string_bytes, codes, ap, ◌∙◌}
use Rattle.std.proofs.lemmas.Result.{err_from_is_err_and}
use Rattle.mpy_endings.specs.Line.{spaced, fault_text, fault_word}
use Rattle.mpy_endings.proofs.Said.{cut_is, both_are}
use Rattle.mpy_endings.proofs.line.say_words.Goals as goal

pub returns-in_err-put : goal.returns-in_err-put
returns-in_err-put g c =
    let word = fault_word (map string_bytes c.args.words.now) c.args.fault in
    let failed = err_from_is_err_and c.from_residual.result c.from_residual.ensures.1 in
    rw failed.1 (cut_is (g.E.Sink.told c.args.say.now) (g.E.Sink.told c.put.new.say) (g.E.Sink.count c.args.say.now) (g.E.Sink.count c.put.new.say) c.fault_text.result.now (fault_text c.args.fault) (spaced word ++ codes "\n") failed.0 c.fault_text.ensures c.in_err-put.ensures)

pub returns : goal.returns
returns g c =
    let word = fault_word (map string_bytes c.args.words.now) c.args.fault in
    let named : c.gap.result.now ++ c.fault_word-word.result.now ≡ spaced word = c.gap.ensures ∙ ap spaced c.fault_word-word.ensures in
    let rest : c.gap.result.now ++ c.fault_word-word.result.now ++ codes "\n" ≡ spaced word ++ codes "\n" = ap (λ (bs : List ℕ). bs ++ codes "\n") named in
    both_are (g.E.Sink.told c.args.say.now) (g.E.Sink.told c.put.new.say) (g.E.Sink.told c.put_three.new.say) (g.E.Sink.count c.args.say.now) (g.E.Sink.count c.put.new.say) (g.E.Sink.count c.put_three.new.say) c.fault_text.result.now (fault_text c.args.fault) (c.gap.result.now ++ c.fault_word-word.result.now ++ codes "\n") (spaced word ++ codes "\n") c.in_ok-put.field-0 c.put_three.result c.fault_text.ensures rest c.in_ok-put.ensures c.put_three.ensures
