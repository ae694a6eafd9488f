-- Readings one after another.
use Rattle.std.proofs.Common.{◌≡◌, ◌⊎◌, ℕ, zero, suc, ◌+◌, ◌-◌, ◌<◌, ◌≤◌, Bool, true, false, List, Result, Ok, Err, refl, sym, ap, subst, ◌∙◌, inl, inr, arith}
use Rattle.mpy_base.specs.declared.refused.Refused.{Refused}
use Rattle.mpy_base.specs.declared.refused.Refused.TheVariants as refusals
use Rattle.image_grammar.specs.declared.fault.ImageFault.{ImageFault}
use Rattle.image_grammar.specs.Steps.{Reading, Field, Bind, goes_on, stops, judge, sought, times, Fails, Gives}

pub refused_by : {A B : Type 0} (R : Reading A) (Q : A → Reading B) (e : Refused ImageFault) → Fails e R → Fails e (Bind R Q)
refused_by R Q (refusals.Fault fault) h = stops fault h refl
refused_by R Q refusals.NoMemory h = tt

-- the exit of a call that has a fault
pub exit : {A B X : Type 0} (R : Reading A) (Q : A → Reading B) (view : X → B) (r : Result X (Refused ImageFault)) (y e : Refused ImageFault) → r ≡ Err y → y ≡ e → Fails e R → Gives view r (Bind R Q)
exit {A} {B} {X} R Q view r y e is same h =
    let made : Result X (Refused ImageFault) = Err e in
    let whole : r ≡ made = is ∙ ap (λ z. Err z) same in
    let P : Result X (Refused ImageFault) → Type 0 = λ z. Gives view z (Bind R Q) in
    subst P (sym whole) (refused_by R Q e h)

-- the exit of a call for want of memory
pub no_memory : {B X : Type 0} (R : Reading B) (view : X → B) (r : Result X (Refused ImageFault)) (y : Refused ImageFault) → r ≡ Err y → y ≡ refusals.NoMemory → Gives view r R
no_memory {B} {X} R view r y is same =
    let made : Result X (Refused ImageFault) = Err refusals.NoMemory in
    let whole : r ≡ made = is ∙ ap (λ z. Err z) same in
    let P : Result X (Refused ImageFault) → Type 0 = λ z. Gives view z R in
    subst P (sym whole) tt

-- a fact that holds, and one that doesn't
pub judged : {B : Type 0} {Q : Unit {0} → Reading B} {Fact : Type 0} {fault : ImageFault} {outcome : Result B ImageFault} → Fact → Q tt outcome → Bind (judge Fact fault) Q outcome
judged fact h = goes_on tt (inl (fact, refl)) h

pub unjudged : {B : Type 0} {Q : Unit {0} → Reading B} {Fact : Type 0} {fault : ImageFault} → (Fact → ⊥) → Bind (judge Fact fault) Q (Err fault)
unjudged {fault = fault} never = stops fault (inr (never, refl)) refl

-- a call behind a field that is read, and behind a fact that holds
pub onward : {A B X : Type 0} (R : Reading A) (Q : A → Reading B) (view : X → B) (r : Result X (Refused ImageFault)) (x : A) → R (Ok x) → Gives view r (Q x) → Gives view r (Bind R Q)
onward R Q view (Ok y) x h k = goes_on x h k
onward R Q view (Err (refusals.Fault fault)) x h k = goes_on x h k
onward R Q view (Err refusals.NoMemory) x h k = tt

pub onward_judged : {B X : Type 0} (Q : Unit {0} → Reading B) (Fact : Type 0) (fault : ImageFault) (view : X → B) (r : Result X (Refused ImageFault)) → Fact → Gives view r (Q tt) → Gives view r (Bind (judge Fact fault) Q)
onward_judged Q Fact fault view r fact k = onward (judge Fact fault) Q view r tt (inl (fact, refl)) k

pub not_true : (b : Bool) → b ≡ true → b ≡ false → ⊥
not_true true e f = absurd cc
not_true false e f = absurd cc
