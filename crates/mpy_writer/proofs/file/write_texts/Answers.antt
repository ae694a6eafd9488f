use Rattle.std.proofs.Common.{◌+◌, ◌++◌, [], ℕ, List, map, drop, get_or, sym, ap, subst, ◌∙◌, append_assoc, arith}
use Rattle.std.specs.List.{flat_map}
use Rattle.std.proofs.lemmas.List.{at_drop_more}
use Rattle.std.proofs.lemmas.List.Elements.{All-get_or}
use Rattle.mpy_tree.specs.Canonical.{qstr_bytes}
use Rattle.mpy_writer.specs.File.{qstr_of}
use Rattle.mpy_writer.specs.Writable.{IsText}
use Rattle.mpy_writer.proofs.Numbers.{text_there, is_there, copied_is}
use Rattle.mpy_writer.proofs.file.write_texts.Goals as goal

pub unwrap-requires : goal.unwrap-requires
unwrap-requires c =
    let len = c.len-n-end.ensures in
    let test = c.loop-n-test.true in
    is_there c.text.result (get_or c.args.texts.now.texts c.loop-n.n []) (c.text.ensures ∙ text_there c.args.texts.now c.loop-n.n c.requires.fits.first (omega (arith, len, test)))

pub write_text-requires : goal.write_text-requires
write_text-requires c =
    let texts = c.args.texts.now.texts in
    let len = c.len-n-end.ensures in
    let test = c.loop-n-test.true in
    let text = copied_is c.text.result c.unwrap.result (get_or texts c.loop-n.n []) (c.text.ensures ∙ text_there c.args.texts.now c.loop-n.n c.requires.fits.first (omega (arith, len, test))) c.unwrap.ensures in
    subst IsText (sym text) (All-get_or IsText texts c.loop-n.n [] (omega (arith, len, test)) c.requires.fine)

pub loop-n-preserved : goal.loop-n-preserved
loop-n-preserved c =
    let texts = c.args.texts.now.texts in
    let n = c.loop-n.n in
    let len = c.len-n-end.ensures in
    let test = c.loop-n-test.true in
    let text = copied_is c.text.result c.unwrap.result (get_or texts n []) (c.text.ensures ∙ text_there c.args.texts.now n c.requires.fits.first (omega (arith, len, test))) c.unwrap.ensures in
    let entry = λ (z : List ℕ). qstr_bytes (qstr_of z) in
    let rest = flat_map qstr_bytes (map qstr_of (drop (n + 1) texts)) in
    ap (λ (z : List ℕ). z ++ rest) (c.in_ok-write_text.ensures ∙ ap (λ (z : List ℕ). c.loop-n.out.items ++ entry z) text)
    ∙ (append_assoc c.loop-n.out.items (entry (get_or texts n [])) rest
    ∙ (ap (λ (z : List ℕ). c.loop-n.out.items ++ z) (sym (at_drop_more (λ (ts : List (List ℕ)). flat_map qstr_bytes (map qstr_of ts)) texts n [] (omega (arith, len, test)))) ∙ c.loop-n.invariant))
