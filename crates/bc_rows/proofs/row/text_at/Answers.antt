use Rattle.std.proofs.Common.{◌≡◌, ◌+◌, true, false, length, sym, subst}
use Rattle.std.specs.Prelude.{IsSome}
use Rattle.bc_library.specs.Shelf.{entry_at, table_text}
use Rattle.bc_library.specs.Texts.{text_numbered}
use Rattle.bc_rows.proofs.Indexes.{both_read}
use Rattle.bc_rows.proofs.row.text_at.Goals as goal

pub unreachable-requires : goal.unreachable-requires
unreachable-requires c =
    let k = c.requires.known in
    c.in_default.not-Ok _ (c.read_vuint.ensures.only k.0 k.1 k.2 k.3 k.4)

pub unreachable-requires-in_default-text_number : goal.unreachable-requires-in_default-text_number
unreachable-requires-in_default-text_number c =
    let k = c.requires.known in
    let read = c.in-Ok.ensures.only k.0 k.1 k.2 k.3 k.4 in
    let same = (both_read c.in-Ok.index k.2 c.in-Ok.behind _ read).0 in
    let wrong : false ≡ true = c.in_default-text_number.ensures.some.1 (subst (λ n. IsSome (entry_at c.args.library.now c.args.number n)) (sym same) k.5) in
    cc

pub returns : goal.returns
returns c text rest index s e =
    let read = c.in-Ok.ensures.only text rest index s e in
    let same = both_read c.in-Ok.index index c.in-Ok.behind (c.args.at + length text) read in
    (subst (λ n. text_numbered c.args.library.now.pool c.in-Some.text ≡ table_text c.args.library.now c.args.number n) same.0 c.in-Some.ensures.text, same.1)
