-- What was read step by step.
use Rattle.std.proofs.Common.{◌≡◌, ◌⊎◌, ℕ, zero, suc, ◌+◌, Bool, true, false, List, [], ◌∷◌, ◌++◌, Result, Ok, Err, refl, sym, ap, subst, ◌∙◌, append_assoc, inl, inr, arith}
use Rattle.std.proofs.lemmas.List.{append-nil}
use Rattle.mpy_reader.specs.mpy_tree.File.{Many}
use Rattle.image_grammar.specs.declared.fault.ImageFault.{ImageFault}
use Rattle.image_grammar.specs.Steps.{Reading, Field, Bind, goes_on, stops, judge, choose, times}

abbrev pub done : {A : Type 0} → A → Result A ImageFault
done x = Ok x

abbrev pub read : {A B : Type 0} → A → B → Result (A × B) ImageFault
read x rest = Ok (x, rest)

-- the value of steps that have no fault
pub bind_ok : {A B : Type 0} (R : Reading A) (Q : A → Reading B) (y : B) → Bind R Q (Ok y) → (x : A) × R (Ok x) × Q x (Ok y)
bind_ok R Q y (goes_on x r q) = (x, r, q)
bind_ok R Q y (stops fault h e) = absurd cc

pub judge_ok : {B : Type 0} (Fact : Type 0) (fault : ImageFault) (Q : Unit {0} → Reading B) (y : B) → Bind (judge Fact fault) Q (Ok y) → Fact × Q tt (Ok y)
judge_ok Fact fault Q y (goes_on x (inl fact) q) = (fact.0, q)
judge_ok Fact fault Q y (goes_on x (inr never) q) = let e : done x ≡ Err fault = never.1 in absurd cc
judge_ok Fact fault Q y (stops f h e) = absurd cc

pub ok_is : {A : Type 0} (x y : A) → done x ≡ done y → x ≡ y
ok_is x y e = cc

pub ok_parts : {A B : Type 0} (x v : A) (rest w : B) → read x rest ≡ read v w → (x ≡ v) × (rest ≡ w)
ok_parts {A} {B} x v rest w e =
    let p : A × B = (x, rest) in
    let q : A × B = (v, w) in
    let same : p ≡ q = ok_is p q e in
    (ap (λ (z : A × B). z.0) same, ap (λ (z : A × B). z.1) same)

pub chosen : {A : Type 0} (b : Bool) (P Q : Reading A) (o : Result A ImageFault) → choose b P Q o → ((b ≡ true) × P o) ⊎ ((b ≡ false) × Q o)
chosen true P Q o h = inl (refl, h)
chosen false P Q o h = inr (refl, h)

-- a fact of the steps that were taken, which each step keeps
pub record Keeps {A : Type 0} (step : A → List ℕ → Result (A × List ℕ) ImageFault → Type 0) (P : ℕ → A → List ℕ → Type 0) : Type 0 where
  pub next : (i : ℕ) (state new : A) (bytes rest : List ℕ) → P i state bytes → step state bytes (Ok (new, rest)) → P (suc i) new rest

pub times_keeps : {A : Type 0} (step : A → List ℕ → Field A) (P : ℕ → A → List ℕ → Type 0) → Keeps step P → (count i : ℕ) (state new : A) (bytes rest : List ℕ) → P i state bytes → times count step state bytes (Ok (new, rest)) → P (count + i) new rest
unfolding times
times_keeps step P keeps zero i state new bytes rest p h =
    let both = ok_parts new state rest bytes h in
    let n : i ≡ 0 + i = omega arith in
    subst (λ (z : ℕ). P z new rest) n (subst (λ z. P i z rest) (sym both.0) (subst (λ z. P i state z) (sym both.1) p))
times_keeps step P keeps (suc count) i state new bytes rest p h =
    let a = bind_ok _ _ _ h in
    let whole = times_keeps step P keeps count (suc i) a.0.0 new a.0.1 rest (keeps.next i state a.0.0 bytes a.0.1 p a.1) a.2 in
    let n : count + suc i ≡ suc count + i = omega arith in
    subst (λ (z : ℕ). P z new rest) n whole

pub Many-push : {A : Type 0} (Form : List ℕ → A → Type 0) (text more : List ℕ) (xs : List A) (x : A) → Many Form text xs → Form more x → Many Form (text ++ more) (xs ++ x ∷ [])
Many-push Form text more [] x m f = (more, [], f, ap (λ (z : List ℕ). z ++ more) m ∙ sym (append-nil more), refl)
Many-push Form text more (y ∷ ys) x m f = (m.0, m.1 ++ more, m.2, ap (λ (z : List ℕ). z ++ more) m.3 ∙ append_assoc m.0 m.1 more, Many-push Form m.1 more ys x m.4 f)
