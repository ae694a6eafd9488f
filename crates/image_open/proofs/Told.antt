-- A fault that a call tells.
use Rattle.std.proofs.Common.{◌≡◌, ◌⊎◌, Err, inl, inr, sym, subst}
use Rattle.mpy_base.specs.declared.refused.Refused.{Refused}
use Rattle.mpy_base.specs.declared.refused.Refused.TheVariants as refusals
use Rattle.image_grammar.specs.declared.fault.ImageFault.{ImageFault}
use Rattle.image_grammar.specs.Steps.{Reading, Fails}

-- a fault that is told, unless memory ran out
pub told : {B : Type 0} (R : Reading B) (e : Refused ImageFault) (fault : ImageFault) → (e ≡ refusals.Fault fault) ⊎ (e ≡ refusals.NoMemory) → R (Err fault) → Fails e R
told R e fault (inl is) h = subst (λ z. Fails z R) (sym is) h
told R e fault (inr is) h = subst (λ z. Fails z R) (sym is) tt
