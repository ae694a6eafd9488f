-- How calls end, one after another.
use Rattle.std.proofs.Common.{◌≡◌, Result, Err, sym, ap, subst, ◌∙◌}
use Rattle.mpy_base.specs.declared.refused.Refused.{Refused}
use Rattle.mpy_base.specs.declared.refused.Refused.TheVariants as refusals
use Rattle.mpy_writer.specs.declared.fault.WriteFault.{WriteFault}
use Rattle.mpy_writer.specs.Outcome.{FaultIs, IfFault}

-- a fault of which more is known
pub failed : (P Q : WriteFault → Type 0) (e : Refused WriteFault) → FaultIs e P → ((f : WriteFault) → P f → Q f) → FaultIs e Q
failed P Q (refusals.Fault fault) h more = more fault h
failed P Q refusals.NoMemory h more = tt

-- the exit of a call that has a fault
pub exit : {X : Type 0} (P Q : WriteFault → Type 0) (r : Result X (Refused WriteFault)) (y e : Refused WriteFault) → r ≡ Err y → y ≡ e → FaultIs e P → ((f : WriteFault) → P f → Q f) → IfFault r Q
exit {X} P Q r y e is same h more =
    let made : Result X (Refused WriteFault) = Err e in
    let whole : r ≡ made = is ∙ ap (λ z. Err z) same in
    let F : Result X (Refused WriteFault) → Type 0 = λ z. IfFault z Q in
    subst F (sym whole) (failed P Q e h more)
