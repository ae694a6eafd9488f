use Rattle.std.proofs.Common.{◌≡◌, ℕ, List, length, replicate, sym, ap, ◌∙◌, arith}
use Rattle.std.proofs.lemmas.List.{length-replicate}
use Rattle.mpy_base.specs.World.{TextObject, text_at, with_text}
use Rattle.mpy_base.specs.Weights.{Made}
use Rattle.prim_builtins.proofs.prim_operators_lemmas.TextFills.{filled_made, zeros_made}
use Rattle.prim_str_methods.specs.Parts.{cut_bytes, written}
use Rattle.prim_str_methods.proofs.Writings.{written_all, cut_length}
use Rattle.prim_str_methods.proofs.JoinOutcomes.{cut_made}
use Rattle.prim_str_methods.proofs.PieceLists.{some_piece}
use Rattle.prim_str_methods.proofs.splits.make_piece.Goals as goal

pub returns-clause-ok : goal.returns-clause-ok
returns-clause-ok g c =
    let texts = g.C.Constants.text_of c.args.consts.now in
    let tuples = g.C.Constants.items_of c.args.consts.now in
    let h = c.args.arena.now in
    let cut = c.args.cut in
    let target = cut_bytes texts h cut in
    let whole : length target ≡ cut.len = cut_length texts tuples h cut c.requires in
    let len = cut.len in
    let made = c.make_text.new.self in
    let t = c.in_ok-t.t.cell in
    let m : Made h made t (TextObject (replicate len 0)) = c.in_ok-t.ensures.made in
    let new = c.put_cut.new.arena in
    let filled : new ≡ with_text made t target =
    c.put_cut.ensures.put ∙ ap (λ (bs : List ℕ). with_text made t bs)
    (ap (λ (bs : List ℕ). written (text_at made t) 0 bs) (cut_made texts tuples (replicate len 0) m cut c.requires) ∙ written_all (text_at made t) target (omega (arith, whole, zeros_made len m))) in
    let all : Made h new t (TextObject target) = filled_made texts tuples (replicate len 0) m new target (omega (arith, whole, length-replicate {A = ℕ} len 0)) filled in
    all.world ∙ sym (some_piece h target (λ e. c.if-cut-eq0.false (omega (arith, whole, e))))
