-- How calls end, one after another.
use Rattle.std.proofs.Common.{◌≡◌, Result, Ok, Err, IfOk, OnOk, sym, ap, subst, ◌∙◌}
use Rattle.mpy_base.specs.declared.refused.Refused.{Refused}
use Rattle.mpy_base.specs.declared.refused.Refused.TheVariants as refusals
use Rattle.image_open.specs.image_grammar.declared.fault.ImageFault.{ImageFault}
use Rattle.image_freeze.specs.Uses.{FaultIs, IfFault}

-- a fault of which more is known
pub failed : (P Q : ImageFault → Type 0) (e : Refused ImageFault) → FaultIs e P → ((f : ImageFault) → P f → Q f) → FaultIs e Q
failed P Q (refusals.Fault fault) h more = more fault h
failed P Q refusals.NoMemory h more = tt

-- the exit of a call that has a fault
pub exit : {X : Type 0} (P Q : ImageFault → Type 0) (r : Result X (Refused ImageFault)) (y e : Refused ImageFault) → r ≡ Err y → y ≡ e → FaultIs e P → ((f : ImageFault) → P f → Q f) → IfFault r Q
exit {X} P Q r y e is same h more =
    let made : Result X (Refused ImageFault) = Err e in
    let whole : r ≡ made = is ∙ ap (λ z. Err z) same in
    let F : Result X (Refused ImageFault) → Type 0 = λ z. IfFault z Q in
    subst F (sym whole) (failed P Q e h more)

-- more of what is given
pub if_ok_more : {A E : Type 0} (P Q : A → Type 0) (r : Result A E) → IfOk r P → ((a : A) → P a → Q a) → IfOk r Q
if_ok_more P Q (Ok a) h more = more a h
if_ok_more P Q (Err e) h more = tt

pub on_ok_more : {A E : Type 0} (P Q : Type 0) (r : Result A E) → OnOk r P → (P → Q) → OnOk r Q
on_ok_more P Q (Ok a) h more = more h
on_ok_more P Q (Err e) h more = tt

pub if_fault_more : {X : Type 0} (P Q : ImageFault → Type 0) (r : Result X (Refused ImageFault)) → IfFault r P → ((f : ImageFault) → P f → Q f) → IfFault r Q
if_fault_more P Q (Ok x) h more = tt
if_fault_more P Q (Err e) h more = failed P Q e h more
