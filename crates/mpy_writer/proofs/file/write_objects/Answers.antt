use Rattle.std.proofs.Common.{◌+◌, ◌++◌, [], ℕ, List, drop, get_or, sym, ap, ◌∙◌, append_assoc, arith}
use Rattle.std.specs.List.{concat}
use Rattle.std.proofs.lemmas.List.{at_drop_more}
use Rattle.mpy_writer.proofs.Numbers.{text_there, copied_is}
use Rattle.mpy_writer.proofs.file.write_objects.Goals as goal

pub loop-n-preserved : goal.loop-n-preserved
loop-n-preserved c =
    let texts = c.args.objects.now.texts in
    let n = c.loop-n.n in
    let len = c.len-n-end.ensures in
    let test = c.loop-n-test.true in
    let text = copied_is c.text.result c.unwrap.result (get_or texts n []) (c.text.ensures ∙ text_there c.args.objects.now n c.requires.first (omega (arith, len, test))) c.unwrap.ensures in
    let rest = concat (drop (n + 1) texts) in
    ap (λ (z : List ℕ). z ++ rest) (c.in_ok-extend_from_slice.ensures.items ∙ ap (λ (z : List ℕ). c.loop-n.out.items ++ z) text)
    ∙ (append_assoc c.loop-n.out.items (get_or texts n []) rest ∙ (ap (λ (z : List ℕ). c.loop-n.out.items ++ z) (sym (at_drop_more concat texts n [] (omega (arith, len, test)))) ∙ c.loop-n.invariant))
