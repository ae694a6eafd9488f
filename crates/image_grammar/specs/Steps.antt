-- Readings of an image one after another: what is read, or the first fault.
use Rattle.std.specs.Prelude.{◌≡◌, ◌⊎◌, ℕ, zero, suc, List, Result, Ok, Err, Bool, true, false}
use Rattle.mpy_base.specs.declared.refused.Refused.{Refused}
use Rattle.mpy_base.specs.declared.refused.Refused.TheVariants as refused
use Rattle.image_grammar.specs.declared.fault.ImageFault.{ImageFault}

-- which value is read, or which fault
abbrev pub Reading : Type 0 → Type 1
Reading A = Result A ImageFault → Type 0

-- a reading, and then one that depends on its value
pub data Bind {A B : Type 0} (R : Result A ImageFault → Type 0) (Q : A → Result B ImageFault → Type 0) (outcome : Result B ImageFault) : Type 0 where
  goes_on : (x : A) → R (Ok x) → Q x outcome → Bind R Q outcome
  stops : (fault : ImageFault) → R (Err fault) → outcome ≡ Err fault → Bind R Q outcome

-- the first reading, and then the one that its value gives
infixl 10 ◌>>=◌
abbrev pub ◌>>=◌ : {A B : Type 0} → Reading A → (A → Reading B) → Reading B
R >>= Q = Bind R Q

-- the first reading, and then the second, whatever the value of the first
infixl 10 ◌>>◌
abbrev pub ◌>>◌ : {A B : Type 0} → Reading A → Reading B → Reading B
R >> Q = Bind R (λ _. Q)

-- this value, without a look at any byte
abbrev pub pure : {A : Type 0} → A → Reading A
pure x outcome = outcome ≡ Ok x

-- this fault
abbrev pub refuse : {A : Type 0} → ImageFault → Reading A
refuse fault outcome = outcome ≡ Err fault

-- it goes on where the fact holds, and else has the fault
abbrev pub judge : Type 0 → ImageFault → Reading (Unit {0})
judge Fact fault outcome = (Fact × (outcome ≡ Ok tt)) ⊎ ((Fact → ⊥) × (outcome ≡ Err fault))

-- the first reading where it is true, and else the second
abbrev pub choose : {A : Type 0} → Bool → Reading A → Reading A → Reading A
choose true P Q outcome = P outcome
choose false P Q outcome = Q outcome

-- a value of which the fact holds, and the fault where there is none
abbrev pub sought : {A : Type 0} → (A → Type 0) → ImageFault → Reading A
sought Fact fault (Ok x) = Fact x
sought {A} Fact fault (Err other) = (other ≡ fault) × ((x : A) → Fact x → ⊥)

-- a value and the bytes behind it
abbrev pub Field : Type 0 → Type 1
Field A = Reading (A × List ℕ)

-- a step is taken that number of times, each from what the one before has left
unfoldable pub times : {A : Type 0} → ℕ → (A → List ℕ → Field A) → A → List ℕ → Field A
times zero step state bytes = pure (state, bytes)
times (suc count) step state bytes = do
  next ← step state bytes
  times count step next.0 next.1

-- what a call answers is what is read, unless memory ran out
abbrev pub Fails : {B : Type 0} → Refused ImageFault → Reading B → Type 0
Fails (refused.Fault fault) R = R (Err fault)
Fails refused.NoMemory R = Unit {0}

-- what a call answers, seen by `view`, is what is read; and its fault is the one that is read
abbrev pub Gives : {A B : Type 0} → (A → B) → Result A (Refused ImageFault) → Reading B → Type 0
Gives view (Ok x) R = R (Ok (view x))
Gives view (Err refusal) R = Fails refusal R
