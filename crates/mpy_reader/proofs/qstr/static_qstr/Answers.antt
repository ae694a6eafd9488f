use Rattle.std.proofs.Common.{refl, arith}
use Rattle.mpy_reader.specs.Reading.{static_qstr}
use Rattle.mpy_reader.proofs.Steps.{judged, unjudged}
use Rattle.mpy_reader.proofs.qstr.static_qstr.Goals as goal
use Rattle.mpy_reader.proofs.qstr.static_qstr.Goals.{then-number-eq0-via-then-number-eq0, then-number-eq0-via-else-number-eq0+then-number-from}

pub returns-then-number-eq0 : goal.returns-then-number-eq0
unfolding static_qstr
returns-then-number-eq0 c =
    elim c.then-number-eq0.branch [
      | then-number-eq0-via-then-number-eq0 w ↦ unjudged (λ h. omega (arith, h.0))
      | then-number-eq0-via-else-number-eq0+then-number-from w ↦ unjudged (λ h. omega (arith, h.1))
    ]

pub returns : goal.returns
unfolding static_qstr
returns c = judged (omega arith, omega arith) refl
