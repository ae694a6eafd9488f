-- Steps one after another, as a loop takes them.
use Rattle.std.proofs.Common.{◌≡◌, ℕ, zero, suc, ◌+◌, ◌-◌, ◌<◌, ◌≤◌, List, Result, Ok, Err, refl, sym, ap, subst, ◌∙◌, arith}
use Rattle.mpy_base.specs.declared.refused.Refused.{Refused}
use Rattle.mpy_base.specs.declared.refused.Refused.TheVariants as refusals
use Rattle.image_grammar.specs.declared.fault.ImageFault.{ImageFault}
use Rattle.image_grammar.specs.Steps.{Field, goes_on, stops, times, Fails, Gives}

-- what `left` further steps give from here is what all give
pub record Reaches {A : Type 0} (step : A → List ℕ → Result (A × List ℕ) ImageFault → Type 0) (count : ℕ) (start : A) (bytes : List ℕ) (left : ℕ) (state : A) (rest : List ℕ) : Type 0 where
  pub onward : (found : Result (A × List ℕ) ImageFault) → times left step state rest found → times count step start bytes found

pub starts : {A : Type 0} (step : A → List ℕ → Field A) (count left : ℕ) (start : A) (bytes : List ℕ) → left ≡ count → Reaches step count start bytes left start bytes
starts step count left start bytes e = record { onward = λ found h. subst (λ z. times z step start bytes found) e h }

pub goes_further : {A : Type 0} (step : A → List ℕ → Field A) (count i : ℕ) (start state next : A) (bytes rest after : List ℕ) → i < count → step state rest (Ok (next, after)) → Reaches step count start bytes (count - i) state rest → Reaches step count start bytes (count - (i + 1)) next after
unfolding times
goes_further step count i start state next bytes rest after lt h so_far =
    let left : count - i ≡ suc (count - (i + 1)) = omega arith in
    record { onward = λ found others. so_far.onward found (subst (λ z. times z step state rest found) (sym left) (goes_on (next, after) h others)) }

pub ended : {A : Type 0} (step : A → List ℕ → Field A) (count i : ℕ) (start state : A) (bytes rest : List ℕ) → count ≤ i → Reaches step count start bytes (count - i) state rest → times count step start bytes (Ok (state, rest))
unfolding times
ended step count i start state bytes rest le so_far =
    let left : count - i ≡ 0 = omega arith in
    so_far.onward (Ok (state, rest)) (subst (λ z. times z step state rest (Ok (state, rest))) (sym left) refl)

refused_further : {A : Type 0} (step : A → List ℕ → Field A) (count i : ℕ) (start state : A) (bytes rest : List ℕ) (e : Refused ImageFault) → i < count → Fails e (step state rest) → Reaches step count start bytes (count - i) state rest → Fails e (times count step start bytes)
unfolding times
refused_further step count i start state bytes rest (refusals.Fault fault) lt h so_far =
    let left : count - i ≡ suc (count - (i + 1)) = omega arith in
    so_far.onward (Err fault) (subst (λ z. times z step state rest (Err fault)) (sym left) (stops fault h refl))
refused_further step count i start state bytes rest refusals.NoMemory lt h so_far = tt

-- the exit of a loop at a step that has a fault
pub exit_further : {A X : Type 0} (step : A → List ℕ → Field A) (count i : ℕ) (start state : A) (bytes rest : List ℕ) (view : X → A × List ℕ) (r : Result X (Refused ImageFault)) (y e : Refused ImageFault) → r ≡ Err y → y ≡ e → i < count → Fails e (step state rest) → Reaches step count start bytes (count - i) state rest → Gives view r (times count step start bytes)
exit_further {A} {X} step count i start state bytes rest view r y e is same lt h so_far =
    let made : Result X (Refused ImageFault) = Err e in
    let whole : r ≡ made = is ∙ ap (λ z. Err z) same in
    let P : Result X (Refused ImageFault) → Type 0 = λ z. Gives view z (times count step start bytes) in
    subst P (sym whole) (refused_further step count i start state bytes rest e lt h so_far)
