use Rattle.std.proofs.Common.{◌≡◌, ℕ, ℤ, pos, ◌+ℤ◌, ap, ◌∙◌, sym, subst, arith}
use Rattle.std.proofs.lemmas.Int.{to_z-of_z}
use Rattle.bc_labels.specs.Positions.{Starts, position_in}
use Rattle.bc_labels.proofs.Arrival.{arrives}
use Rattle.bc_labels.proofs.Pieces.{within}
use Rattle.bc_labels.proofs.fetching.jump_target.Goals as goal

pub moved-requires : goal.moved-requires
moved-requires c =
    let a = arrives c.requires.0 c.requires.1 _ c.requires.2 c.requires.4 c.requires.5 in
    let w = within c.requires.0 c.requires.1 a.offset c.requires.4 a.starts in
    let short = c.requires.3 in
    (a.offset, omega (arith, w, short), ap (λ (z : ℤ). pos c.args.end +ℤ z) (to_z-of_z _ c.args.offset c.ranges.offset) ∙ a.is)

pub returns : goal.returns
returns c bytes l q ls e =
    let a = arrives bytes l _ q ls e in
    subst (λ (z : ℕ). Starts l.offsets z × (position_in l.offsets z ≡ q)) (sym (c.moved.ensures a.offset (ap (λ (z : ℤ). pos c.args.end +ℤ z) (to_z-of_z _ c.args.offset c.ranges.offset) ∙ a.is))) (a.starts, a.there)
