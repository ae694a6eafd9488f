use Rattle.std.proofs.Common.{◌≡◌, ℕ, ◌+◌, List, [], ◌++◌, length, get_or, sym, ap, ◌∙◌, arith, length-append}
use Rattle.mpy_base.specs.World.{text_at, with_text}
use Rattle.prim_builtins.specs.prim_operators.Sources.{IsOtherThan}
use Rattle.prim_str_methods.specs.Parts.{parts_in, cut_bytes, written, in_front}
use Rattle.prim_str_methods.proofs.Joinings.{cut_now, is_cut_now}
use Rattle.prim_str_methods.proofs.Writings.{written_both, written_length, text_now, put_again, cut_length}
use Rattle.prim_str_methods.proofs.joins.put_part.Goals as goal

pub put_cut-requires-clause-cut : goal.put_cut-requires-clause-cut
put_cut-requires-clause-cut g c =
    let texts = g.C.Constants.text_of c.args.consts.now in
    let tuples = g.C.Constants.items_of c.args.consts.now in
    let h = c.args.arena.now in
    let t = c.args.t.cell in
    let can = c.requires.join in
    let at = c.args.at in
    let from = c.args.from in
    let separator = c.args.separator in
    let over = c.args.over in
    let front = in_front at (cut_bytes texts h separator) in
    let start = text_at h t in
    let part = get_or (parts_in texts h tuples over) at [] in
    let cut = c.part_at-part.result in
    let a = c.put_separator-behind.new.arena in
    let behind = c.put_separator-behind.result in
    let put = c.put_separator-behind.ensures.put in
    let place : behind ≡ from + length front = c.put_separator-behind.ensures.place in
    let other : IsOtherThan t cut.of = c.part_at-part.ensures.apart t can.other_over can.other_strs in
    let is : cut_bytes texts h cut ≡ part = c.part_at-part.ensures.bytes in
    let whole : length part ≡ cut.len = sym (ap (λ (bs : List ℕ). length bs) is) ∙ cut_length texts tuples h cut c.part_at-part.ensures.cut in
    let both = length-append front part in
    let kept : length (written start from front) ≡ length start = written_length start from front (omega (arith, c.requires.room, both)) in
    let now = text_now texts tuples h t can.text a (written start from front) put in
    is_cut_now texts tuples h t separator over can a (written start from front) put cut other c.part_at-part.ensures.cut

pub put_cut-requires-clause-apart : goal.put_cut-requires-clause-apart
put_cut-requires-clause-apart g c =
    let texts = g.C.Constants.text_of c.args.consts.now in
    let tuples = g.C.Constants.items_of c.args.consts.now in
    let h = c.args.arena.now in
    let t = c.args.t.cell in
    let can = c.requires.join in
    let at = c.args.at in
    let from = c.args.from in
    let separator = c.args.separator in
    let over = c.args.over in
    let front = in_front at (cut_bytes texts h separator) in
    let start = text_at h t in
    let part = get_or (parts_in texts h tuples over) at [] in
    let cut = c.part_at-part.result in
    let a = c.put_separator-behind.new.arena in
    let behind = c.put_separator-behind.result in
    let put = c.put_separator-behind.ensures.put in
    let place : behind ≡ from + length front = c.put_separator-behind.ensures.place in
    let other : IsOtherThan t cut.of = c.part_at-part.ensures.apart t can.other_over can.other_strs in
    let is : cut_bytes texts h cut ≡ part = c.part_at-part.ensures.bytes in
    let whole : length part ≡ cut.len = sym (ap (λ (bs : List ℕ). length bs) is) ∙ cut_length texts tuples h cut c.part_at-part.ensures.cut in
    let both = length-append front part in
    let kept : length (written start from front) ≡ length start = written_length start from front (omega (arith, c.requires.room, both)) in
    let now = text_now texts tuples h t can.text a (written start from front) put in
    other

pub returns-clause-put : goal.returns-clause-put
returns-clause-put g c =
    let texts = g.C.Constants.text_of c.args.consts.now in
    let tuples = g.C.Constants.items_of c.args.consts.now in
    let h = c.args.arena.now in
    let t = c.args.t.cell in
    let can = c.requires.join in
    let at = c.args.at in
    let from = c.args.from in
    let separator = c.args.separator in
    let over = c.args.over in
    let front = in_front at (cut_bytes texts h separator) in
    let start = text_at h t in
    let part = get_or (parts_in texts h tuples over) at [] in
    let cut = c.part_at-part.result in
    let a = c.put_separator-behind.new.arena in
    let behind = c.put_separator-behind.result in
    let put = c.put_separator-behind.ensures.put in
    let place : behind ≡ from + length front = c.put_separator-behind.ensures.place in
    let other : IsOtherThan t cut.of = c.part_at-part.ensures.apart t can.other_over can.other_strs in
    let is : cut_bytes texts h cut ≡ part = c.part_at-part.ensures.bytes in
    let whole : length part ≡ cut.len = sym (ap (λ (bs : List ℕ). length bs) is) ∙ cut_length texts tuples h cut c.part_at-part.ensures.cut in
    let both = length-append front part in
    let kept : length (written start from front) ≡ length start = written_length start from front (omega (arith, c.requires.room, both)) in
    let now = text_now texts tuples h t can.text a (written start from front) put in
    put_again texts tuples h t can.text a c.put_cut.new.arena (written start from front) (written start from (front ++ part)) put
    (c.put_cut.ensures.put ∙ ap (λ (bs : List ℕ). with_text a t bs)
    (ap (λ (bs : List ℕ). written bs behind (cut_bytes texts a cut)) now
    ∙ (ap (λ (bs : List ℕ). written (written start from front) behind bs) (cut_now texts tuples h t separator over can a (written start from front) put cut other ∙ is)
    ∙ written_both start from front part behind place (omega (arith, c.requires.room, both, place)))))
