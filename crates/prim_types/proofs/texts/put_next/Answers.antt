use Rattle.std.proofs.Common.{◌≡◌, ℕ, ◌-◌, min, List, length, take, ap, ◌∙◌, arith}
use Rattle.prim_builtins.specs.prim_walks.declared.parts.TextPart.{TextPart}
use Rattle.prim_types.specs.Texts.{found_text, text_in}
use Rattle.prim_types.proofs.PartWrites.{piece_is, part_size}
use Rattle.prim_types.proofs.texts.put_next.Goals as goal

pub put_part-requires-clause-within : goal.put_part-requires-clause-within
put_part-requires-clause-within g c =
    let texts = g.C.Constants.text_of c.args.consts.now in
    let tuples = g.C.Constants.items_of c.args.consts.now in
    let h = c.args.arena.now in
    let text = text_in texts tuples h c.args.raw c.args.v in
    let part = c.unwrap-part.result in
    let piece = piece_is (λ (p : TextPart). take p.count p.bytes) c.text_part.result part (found_text texts tuples h c.args.raw c.args.v) c.args.from c.unwrap-part.ensures c.text_part.ensures.part in
    let size : length (take part.count part.bytes) ≡ min 4096 (length text - c.args.from) = ap (λ (xs : List ℕ). length xs) piece ∙ part_size 4096 text c.args.from in
    omega (arith, size, c.requires.room, c.requires.within)

pub returns-clause-count : goal.returns-clause-count
returns-clause-count g c =
    let texts = g.C.Constants.text_of c.args.consts.now in
    let tuples = g.C.Constants.items_of c.args.consts.now in
    let h = c.args.arena.now in
    let text = text_in texts tuples h c.args.raw c.args.v in
    let part = c.unwrap-part.result in
    let piece = piece_is (λ (p : TextPart). take p.count p.bytes) c.text_part.result part (found_text texts tuples h c.args.raw c.args.v) c.args.from c.unwrap-part.ensures c.text_part.ensures.part in
    let size : length (take part.count part.bytes) ≡ min 4096 (length text - c.args.from) = ap (λ (xs : List ℕ). length xs) piece ∙ part_size 4096 text c.args.from in
    omega (arith, size, c.requires.room, c.part_size.ensures.size)
