use Rattle.std.proofs.Common.{◌≡◌, true, false, refl, below_more, arith}
use Rattle.arena_objects.proofs.finding.in_dict.Goals as goal

pub returns-then-has_key : goal.returns-then-has_key
returns-then-has_key g c = (omega arith, omega arith, c.if-has_key.ensures.0 refl, λ k lo hi is. c.loop-at.invariant k hi is)

pub loop-at-preserved : goal.loop-at-preserved
loop-at-preserved g c =
    below_more _ _ c.loop-at.invariant (λ same. let never : false ≡ true = c.if-has_key.ensures.1 same in cc)

pub returns : goal.returns
returns g c = λ k lo hi is. c.loop-at.invariant k (omega arith) is
