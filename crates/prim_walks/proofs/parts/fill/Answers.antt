use Rattle.std.proofs.Common.{◌≡◌, ℕ, ◌+◌, ◌-◌, ◌++◌, List, length, min, take, sym, ap, refl, ◌∙◌, arith}
use Rattle.std.proofs.lemmas.List.{length-take}
use Rattle.std.proofs.lemmas.Slice.{take-put_mid}
use Rattle.prim_walks.proofs.TextParts.{taken_room}
use Rattle.prim_walks.proofs.parts.fill.Goals as goal

-- what stood in front, and of the piece what there is room for
pub returns-clause-filled : goal.returns-clause-filled
returns-clause-filled c =
    let bytes = c.args.bytes.now in
    let start = c.args.start in
    let piece = c.args.piece.now in
    let count = c.min-count.result in
    let least : count ≡ min (length piece) (length bytes - start) = omega (arith, c.min-count.ensures) in
    let copied : c.copy_from_slice.new.self ≡ take count piece = c.copy_from_slice.ensures.after in
    let size = length-take count piece in
    let end : start + count ≡ start + length c.copy_from_slice.new.self = let same = ap (λ (ys : List ℕ). length ys) copied in omega (arith, same, size, least) in
    take-put_mid start (start + count - start) bytes c.copy_from_slice.new.self (start + count) end c.requires.start
    ∙ (ap (λ (ys : List ℕ). take start bytes ++ ys) copied ∙ sym (taken_room (length bytes) start count bytes piece refl c.requires.start least))
