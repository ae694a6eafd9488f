use Rattle.std.proofs.Common.{◌≡◌, ◌++◌, ℕ, List, codes, decimal, Err, refl, ap, sym, subst, ◌∙◌}
use Rattle.std.proofs.lemmas.Result.{err_from_is_err_and}
use Rattle.mpy_endings.specs.Line.{Puts, path_text}
use Rattle.mpy_endings.proofs.Said.{cut_is, both_are, path_more}
use Rattle.mpy_endings.proofs.line.+put_path.Goals as goal

pub returns-in_err-put_two : goal.returns-in_err-put_two
returns-in_err-put_two g t c =
    let place = c.in-Some.place.now in
    let behind = c.in-Some.behind.now in
    let text = path_more c.args.path.now behind place c.is_empty.result c.in-Some.ensures.cases.0 c.is_empty.ensures c.if-is_empty.false in
    let first : c.as_bytes-digits.result.now ++ codes "." ≡ decimal place ++ codes "." = ap (λ (bs : List ℕ). bs ++ codes ".") (c.as_bytes-digits.ensures.value ∙ c.format.ensures.text) in
    let failed = err_from_is_err_and c.from_residual.result c.from_residual.ensures.1 in
    rw failed.1 (subst (λ (bs : List ℕ). Puts (g.E.Sink.told c.args.say.now) (g.E.Sink.told c.put_two.new.say) (g.E.Sink.count c.args.say.now) (g.E.Sink.count c.put_two.new.say) bs (Err failed.0)) (sym text)
    (cut_is (g.E.Sink.told c.args.say.now) (g.E.Sink.told c.put_two.new.say) (g.E.Sink.count c.args.say.now) (g.E.Sink.count c.put_two.new.say) (c.as_bytes-digits.result.now ++ codes ".") (decimal place ++ codes ".") (path_text behind) failed.0 first c.in_err-put_two.ensures))

pub returns : goal.returns
returns g t c =
    let place = c.in-Some.place.now in
    let behind = c.in-Some.behind.now in
    let text = path_more c.args.path.now behind place c.is_empty.result c.in-Some.ensures.cases.0 c.is_empty.ensures c.if-is_empty.false in
    let first : c.as_bytes-digits.result.now ++ codes "." ≡ decimal place ++ codes "." = ap (λ (bs : List ℕ). bs ++ codes ".") (c.as_bytes-digits.ensures.value ∙ c.format.ensures.text) in
    subst (λ (bs : List ℕ). Puts (g.E.Sink.told c.args.say.now) (g.E.Sink.told c.put_path.new.say) (g.E.Sink.count c.args.say.now) (g.E.Sink.count c.put_path.new.say) bs c.put_path.result) (sym text)
    (both_are (g.E.Sink.told c.args.say.now) (g.E.Sink.told c.put_two.new.say) (g.E.Sink.told c.put_path.new.say) (g.E.Sink.count c.args.say.now) (g.E.Sink.count c.put_two.new.say) (g.E.Sink.count c.put_path.new.say) (c.as_bytes-digits.result.now ++ codes ".") (decimal place ++ codes ".") (path_text behind) (path_text behind) c.in_ok-put_two.field-0 c.put_path.result first refl c.in_ok-put_two.ensures c.put_path.ensures)
