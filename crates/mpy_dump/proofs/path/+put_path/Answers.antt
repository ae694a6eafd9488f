use Rattle.std.proofs.Common.{◌≡◌, ◌++◌, codes, decimal, sym, ap, ◌∙◌}
use Rattle.mpy_dump.specs.Codes.{places, path_text}
use Rattle.mpy_dump.proofs.Paths.{places_Child, path_more}
use Rattle.mpy_dump.proofs.Putting.{begin, step, stop, last, puts_is}
use Rattle.mpy_dump.proofs.path.+put_path.Goals as goal

pub returns-in_err-put_path-in-Child : goal.returns-in_err-put_path-in-Child
returns-in_err-put_path-in-Child g t c =
    let above = c.in-Child.above in
    let place = c.in-Child.place in
    let text : path_text (places c.args.path.now) ≡ path_text (places above.now) ++ (codes "." ++ decimal place) =
    ap (λ p. path_text (places p)) c.in-Child.is ∙ (ap path_text (places_Child above place) ∙ path_more (places above.now) place) in
    puts_is (sym text) (stop (codes "." ++ decimal place) c.from_residual.result c.from_residual.ensures.0 (begin _ _ _ _) c.in_err-put_path-in-Child.ensures)

pub returns-in_ok-put_path-in-Child : goal.returns-in_ok-put_path-in-Child
returns-in_ok-put_path-in-Child g t c =
    let above = c.in-Child.above in
    let place = c.in-Child.place in
    let text : path_text (places c.args.path.now) ≡ path_text (places above.now) ++ (codes "." ++ decimal place) =
    ap (λ p. path_text (places p)) c.in-Child.is ∙ (ap path_text (places_Child above place) ∙ path_more (places above.now) place) in
    puts_is (sym text) (last c.put_place.result (step (codes "." ++ decimal place) (begin _ _ _ _) c.in_ok-put_path-in-Child.ensures) c.put_place.ensures)
