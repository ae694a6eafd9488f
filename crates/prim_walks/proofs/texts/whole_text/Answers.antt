use Rattle.std.proofs.Common.{ℕ, ◌≤◌, List, Some, length, sym, ap, subst, ◌∙◌}
use Rattle.prim_walks.specs.declared.writer.Writer.{Writer}
use Rattle.std.specs.Prelude.{vec_capacity}
use Rattle.prim_walks.proofs.WholeTexts.{wrote_puts, fits}
use Rattle.prim_walks.proofs.texts.whole_text.Goals as goal

pub returns-in-Some-clause-text : goal.returns-in-Some-clause-text
returns-in-Some-clause-text g c =
    let w = c.in-Some.ensures.text in
    let low : length w.text ≤ vec_capacity c.args.bytes = fits w.text w.is c.requires.room in
    let room = subst (λ (n : ℕ). length w.text ≤ n) (sym c.clear.ensures.capacity) low in
    ap (λ (bytes : List ℕ). Some bytes)
    (wrote_puts _ (λ (pen : Writer). pen.bytes.items) (λ (pen : Writer). vec_capacity pen.bytes) (λ old piece new h. h.items) (λ old piece new h. h.room) w.text _ _ w.wrote c.clear.ensures.items room)
    ∙ sym w.is
