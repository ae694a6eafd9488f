-- Readings one after another.
use Rattle.std.proofs.Common.{◌≡◌, Result, Ok, Err, refl, sym, ap, subst, ◌∙◌, inl, inr}
use Rattle.mpy_base.specs.declared.refused.Refused.{Refused}
use Rattle.mpy_base.specs.declared.refused.Refused.TheVariants as refusals
use Rattle.mpy_reader.specs.declared.fault.FileFault.{FileFault}
use Rattle.mpy_reader.specs.Reading.{Reading, Bind, goes_on, stops, judge, Fails, Gives}

-- the first of two has a fault
pub refused : {A B : Type 0} {R : Reading A} {Q : A → Reading B} (fault : FileFault) → R (Err fault) → Bind R Q (Err fault)
refused fault h = stops fault h refl

pub refused_by : {A B : Type 0} (R : Reading A) (Q : A → Reading B) (e : Refused FileFault) → Fails e R → Fails e (Bind R Q)
refused_by R Q (refusals.Fault fault) h = stops fault h refl
refused_by R Q refusals.NoMemory h = tt

-- the exit of a call that has a fault
pub exit : {A B X : Type 0} (R : Reading A) (Q : A → Reading B) (view : X → B) (r : Result X (Refused FileFault)) (y e : Refused FileFault) → r ≡ Err y → y ≡ e → Fails e R → Gives view r (Bind R Q)
exit {A} {B} {X} R Q view r y e is same h =
    let made : Result X (Refused FileFault) = Err e in
    let whole : r ≡ made = is ∙ ap (λ z. Err z) same in
    let P : Result X (Refused FileFault) → Type 0 = λ z. Gives view z (Bind R Q) in
    subst P (sym whole) (refused_by R Q e h)

-- a fact that holds, and one that doesn't
pub judged : {B : Type 0} {Q : Unit {0} → Reading B} {Fact : Type 0} {fault : FileFault} {outcome : Result B FileFault} → Fact → Q tt outcome → Bind (judge Fact fault) Q outcome
judged fact h = goes_on tt (inl (fact, refl)) h

pub unjudged : {B : Type 0} {Q : Unit {0} → Reading B} {Fact : Type 0} {fault : FileFault} → (Fact → ⊥) → Bind (judge Fact fault) Q (Err fault)
unjudged {fault = fault} never = stops fault (inr (never, refl)) refl

-- a call behind a field that is read, and behind a fact that holds
pub onward : {A B X : Type 0} (R : Reading A) (Q : A → Reading B) (view : X → B) (r : Result X (Refused FileFault)) (x : A) → R (Ok x) → Gives view r (Q x) → Gives view r (Bind R Q)
onward R Q view (Ok y) x h k = goes_on x h k
onward R Q view (Err (refusals.Fault fault)) x h k = goes_on x h k
onward R Q view (Err refusals.NoMemory) x h k = tt

pub onward_judged : {B X : Type 0} (Q : Unit {0} → Reading B) (Fact : Type 0) (fault : FileFault) (view : X → B) (r : Result X (Refused FileFault)) → Fact → Gives view r (Q tt) → Gives view r (Bind (judge Fact fault) Q)
onward_judged Q Fact fault view r fact k = onward (judge Fact fault) Q view r tt (inl (fact, refl)) k
