use Rattle.std.proofs.Common.{◌≡◌, ◌≢◌, subst, sym, ◌∙◌, refl, rules}
use Rattle.std.proofs.lemmas.Bool.{false≢true}
use Rattle.mpy_base.specs.Kind.{IsUnder, itself, below}
use Rattle.mpy_base.proofs.KindTree.{from_parent, not_above_top, depth_falls}
use Rattle.mpy_base.proofs.kind.Kind.is_under.Goals as goal
use Rattle.mpy_base.proofs.kind.Kind.is_under.Goals.{In-Some, In-None, After-loop-other}

differs : (c : goal.In-Some) → c.loop-other.kind ≢ c.args.other
differs c e = search rules

differs_at_top : (c : goal.In-None) → c.loop-other.kind ≢ c.args.other
differs_at_top c e = search rules

same_in_end : (c : goal.After-loop-other) → c.loop-other.kind ≡ c.args.other
same_in_end c = search rules

pub loop-other-preserved : goal.loop-other-preserved
loop-other-preserved c =
    let up = sym c.parent.ensures ∙ c.in-Some.is in
    (λ under. from_parent up (differs c) (c.loop-other.invariant.0 under), λ under. c.loop-other.invariant.1 (below up under))

pub loop-other-smaller : goal.loop-other-smaller
loop-other-smaller c = depth_falls _ _ (sym c.parent.ensures ∙ c.in-Some.is)

pub returns : goal.returns
returns c = (λ _. c.loop-other.invariant.1 (subst (IsUnder c.loop-other.kind) (same_in_end c) itself), λ _. refl)

pub returns-in-None : goal.returns-in-None
returns-in-None c =
    let top = sym c.parent.ensures ∙ c.in-None.is in
    (λ yes. absurd (false≢true yes), λ under. absurd (not_above_top top (differs_at_top c) (c.loop-other.invariant.0 under)))
