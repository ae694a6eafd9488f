use Rattle.std.proofs.Common.{◌≡◌, ℕ, List, [], length, ap, ◌∙◌}
use Rattle.mpy_base.specs.World.{text_at}
use Rattle.prim_str_methods.specs.Parts.{cut_bytes, written, in_front}
use Rattle.prim_str_methods.proofs.Joinings.{first_front}
use Rattle.prim_str_methods.proofs.Writings.{written_none, same_text, cut_length}
use Rattle.prim_str_methods.proofs.joins.put_separator.Goals as goal

pub returns-then-at-eq0-clause-put : goal.returns-then-at-eq0-clause-put
returns-then-at-eq0-clause-put g c =
    let texts = g.C.Constants.text_of c.args.consts.now in
    let tuples = g.C.Constants.items_of c.args.consts.now in
    let h = c.args.arena.now in
    let t = c.args.t.cell in
    let at = c.args.at in
    let from = c.args.from in
    let separator = c.args.separator in
    let bytes = cut_bytes texts h separator in
    let start = text_at h t in
    let whole : length bytes ≡ separator.len = cut_length texts tuples h separator c.requires.cut in
    let front : in_front at bytes ≡ [] = first_front bytes at c.if-at-eq0.true in
    same_text texts tuples h t c.requires.text (written start from (in_front at bytes)) (ap (λ (bs : List ℕ). written start from bs) front ∙ written_none start from)
