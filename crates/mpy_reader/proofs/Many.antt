-- Fields one after another, as a loop reads them.
use Rattle.std.proofs.Common.{◌≡◌, ℕ, suc, ◌+◌, ◌-◌, ◌<◌, ◌≤◌, List, [], ◌∷◌, ◌++◌, Result, Ok, Err, refl, sym, ap, subst, ◌∙◌, append_assoc, arith}
use Rattle.std.proofs.lemmas.List.{append-nil}
use Rattle.mpy_base.specs.declared.refused.Refused.{Refused}
use Rattle.mpy_base.specs.declared.refused.Refused.TheVariants as refusals
use Rattle.mpy_reader.specs.declared.fault.FileFault.{FileFault}
use Rattle.mpy_reader.specs.Reading.{Field, goes_on, stops, many, Fails, Gives, Holds}

abbrev pub Found : Type 0 → Type 0
Found A = Result (List A × List ℕ) FileFault

-- what is read behind some values
abbrev pub with_front : {A : Type 0} → List A → Found A → Found A
with_front front (Ok found) = Ok (front ++ found.0, found.1)
with_front front (Err fault) = Err fault

-- of n fields these are read, and what is read of k further ones is what is read of all
pub record Reaches {A : Type 0} (field : List ℕ → Result (A × List ℕ) FileFault → Type 0) (n : ℕ) (bytes : List ℕ) (items : List A) (k : ℕ) (rest : List ℕ) : Type 0 where
  pub onward : (found : Found A) → many k field rest found → many n field bytes (with_front items found)

no_front : {A : Type 0} (found : Found A) → with_front [] found ≡ found
no_front (Ok found) = refl
no_front (Err fault) = refl

one_more : {A : Type 0} (items : List A) (x : A) (found : Found A) → with_front items (with_front (x ∷ []) found) ≡ with_front (items ++ x ∷ []) found
one_more items x (Ok found) = ap (λ z. Ok (z, found.1)) (sym (append_assoc items (x ∷ []) found.0))
one_more items x (Err fault) = refl

pub starts : {A : Type 0} (field : List ℕ → Field A) (n k : ℕ) (bytes : List ℕ) → k ≡ n → Reaches field n bytes [] k bytes
starts field n k bytes e = record { onward = λ found h. subst (λ z. many n field bytes z) (sym (no_front found)) (subst (λ z. many z field bytes found) e h) }

first_read : {A : Type 0} (field : List ℕ → Field A) (k : ℕ) (rest after : List ℕ) (x : A) (found : Found A) → field rest (Ok (x, after)) → many k field after found → many (suc k) field rest (with_front (x ∷ []) found)
unfolding many
first_read field k rest after x (Ok found) h others = goes_on (x, after) h (goes_on found others refl)
first_read field k rest after x (Err fault) h others = goes_on (x, after) h (stops fault others refl)

pub goes_further : {A : Type 0} (field : List ℕ → Field A) (n i : ℕ) (bytes rest after : List ℕ) (items : List A) (x : A) → i < n → field rest (Ok (x, after)) → Reaches field n bytes items (n - i) rest → Reaches field n bytes (items ++ x ∷ []) (n - (i + 1)) after
goes_further field n i bytes rest after items x lt h so_far =
    let k : n - i ≡ suc (n - (i + 1)) = omega arith in
    record {
      onward = λ found others.
          let more = first_read field (n - (i + 1)) rest after x found h others in
          subst (λ z. many n field bytes z) (one_more items x found) (so_far.onward (with_front (x ∷ []) found) (subst (λ z. many z field rest (with_front (x ∷ []) found)) (sym k) more));
    }

pub ended : {A : Type 0} (field : List ℕ → Field A) (n i : ℕ) (bytes rest : List ℕ) (items : List A) → n ≤ i → Reaches field n bytes items (n - i) rest → many n field bytes (Ok (items, rest))
unfolding many
ended field n i bytes rest items le so_far =
    let k : n - i ≡ 0 = omega arith in
    let last = so_far.onward (Ok ([], rest)) (subst (λ z. many z field rest (Ok ([], rest))) (sym k) refl) in
    subst (λ z. many n field bytes (Ok (z, rest))) (append-nil items) last

pub refused_further : {A : Type 0} (field : List ℕ → Field A) (n i : ℕ) (bytes rest : List ℕ) (items : List A) (e : Refused FileFault) → i < n → Fails e (field rest) → Reaches field n bytes items (n - i) rest → Fails e (many n field bytes)
unfolding many
refused_further field n i bytes rest items (refusals.Fault fault) lt h so_far =
    let k : n - i ≡ suc (n - (i + 1)) = omega arith in
    so_far.onward (Err fault) (subst (λ z. many z field rest (Err fault)) (sym k) (stops fault h refl))
refused_further field n i bytes rest items refusals.NoMemory lt h so_far = tt

-- the exit of a loop at a field that has a fault
pub exit_further : {A X : Type 0} (field : List ℕ → Field A) (n i : ℕ) (bytes rest : List ℕ) (items : List A) (view : X → List A × List ℕ) (r : Result X (Refused FileFault)) (y e : Refused FileFault) → r ≡ Err y → y ≡ e → i < n → Fails e (field rest) → Reaches field n bytes items (n - i) rest → Gives view r (many n field bytes)
exit_further {A} {X} field n i bytes rest items view r y e is same lt h so_far =
    let made : Result X (Refused FileFault) = Err e in
    let whole : r ≡ made = is ∙ ap (λ z. Err z) same in
    let P : Result X (Refused FileFault) → Type 0 = λ z. Gives view z (many n field bytes) in
    subst P (sym whole) (refused_further field n i bytes rest items e lt h so_far)

-- the same where no value is given
pub passing_exit : {A X : Type 0} (field : List ℕ → Field A) (n i : ℕ) (bytes rest : List ℕ) (items : List A) (r : Result X (Refused FileFault)) (y e : Refused FileFault) → r ≡ Err y → y ≡ e → i < n → Fails e (field rest) → Reaches field n bytes items (n - i) rest → Holds r (many n field bytes)
passing_exit {A} {X} field n i bytes rest items r y e is same lt h so_far =
    let made : Result X (Refused FileFault) = Err e in
    let whole : r ≡ made = is ∙ ap (λ z. Err z) same in
    let P : Result X (Refused FileFault) → Type 0 = λ z. Holds z (many n field bytes) in
    subst P (sym whole) (refused_further field n i bytes rest items e lt h so_far)
