-- Walks under a bound, visit by visit.
use Rattle.std.proofs.Common.{◌≡◌, ℕ, zero, suc, ◌+◌, ◌-◌, ◌≤◌, ◌<◌, Bool, true, false, cond, Option, Some, None, Result, Ok, Err, refl, sym, ap, ◌∙◌, inl, inr, arith}
use Rattle.std.specs.Prelude.{nat_le, min, IfSome}
use Rattle.std.specs.Result.{result_ok}
use Rattle.std.proofs.lemmas.Bool.{cases_lt}
use Rattle.py_primitives.specs.py_values.Equality.{Walk, answers, goes_too_deep, visit, after, when, if_so}
use Rattle.py_primitives.specs.Walks.{go_on, and_then}
use Rattle.prim_walks.specs.declared.budget.Halt.{Halt}
use Rattle.prim_walks.specs.declared.budget.Halt.TheVariants.{TooDeep, Spent}
use Rattle.prim_walks.specs.Runs.{answered, run, spent}

le_yes : (m n : ℕ) → m ≤ n → nat_le m n ≡ true
le_yes m n h = grind arith

le_no : (m n : ℕ) → n < m → nat_le m n ≡ false
le_no m n h = grind arith

module _ {A : Type 0} where
  -- a walk that fits the bound, and one that doesn't
  pub run_fits : (walk : Walk A) (left : ℕ) → walk.visits ≤ left → run walk (Some left) ≡ (answered walk.answer, Some (left - walk.visits))
  run_fits walk left h = ap (λ (b : Bool). cond b (answered walk.answer, Some (left - walk.visits)) (Err Spent, Some 0)) (le_yes walk.visits left h)

  pub run_stops : (walk : Walk A) (left : ℕ) → left < walk.visits → run walk (Some left) ≡ (Err Spent, Some 0)
  run_stops walk left h = ap (λ (b : Bool). cond b (answered walk.answer, Some (left - walk.visits)) (Err Spent, Some 0)) (le_no walk.visits left h)

  visit_one : (walk : Walk A) (left : ℕ) → run (visit walk) (Some (suc left)) ≡ run walk (Some left)
  visit_one walk left =
      let pair : ℕ → Result A Halt × Option ℕ = λ n. (answered walk.answer, Some n) in
      elim (cases_lt left walk.visits) [
        | inl less ↦ run_stops (visit walk) (suc left) (omega arith) ∙ sym (run_stops walk left less)
        | inr fits ↦ run_fits (visit walk) (suc left) (omega arith) ∙ (ap pair (omega arith) ∙ sym (run_fits walk left fits))
      ]

  -- a visit, where there is one left
  pub run_visit : (walk : Walk A) (old mid : Option ℕ) → spent old ≡ Some mid → run (visit walk) old ≡ run walk mid
  run_visit walk None mid e = let p : None ≡ mid = cc in ap (run walk) p
  run_visit walk (Some zero) mid e = absurd cc
  run_visit walk (Some (suc left)) mid e = let p : Some left ≡ mid = cc in visit_one walk left ∙ ap (run walk) p

  -- and where there is none
  pub run_spent : (walk : Walk A) (old : Option ℕ) → spent old ≡ None → run (visit walk) old ≡ (Err Spent, old)
  run_spent walk None e = absurd cc
  run_spent walk (Some zero) e = run_stops (visit walk) 0 (omega arith)
  run_spent walk (Some (suc left)) e = absurd cc

  -- an answer takes no visit
  pub run_answers : (a : A) (left : Option ℕ) → run (answers a) left ≡ (Ok a, left)
  run_answers a None = refl
  run_answers a (Some left) =
      let pair : ℕ → Result A Halt × Option ℕ = λ n. (Ok a, Some n) in
      run_fits (answers a) left (omega arith) ∙ ap pair (omega arith)

  -- nor does a walk that goes too deep
  pub run_deep : (left : Option ℕ) → run {A = A} goes_too_deep left ≡ (Err TooDeep, left)
  run_deep None = refl
  run_deep (Some left) =
      let pair : ℕ → Result A Halt × Option ℕ = λ n. (Err TooDeep, Some n) in
      run_fits goes_too_deep left (omega arith) ∙ ap pair (omega arith)

  -- how many visits were made
  pub made_left : (walk : Walk A) (most left : ℕ) → (run walk (Some most)).1 ≡ Some left → most - left ≡ min walk.visits most
  made_left walk most left e =
      elim (cases_lt most walk.visits) [
        | inl less ↦
            let p : Some left ≡ Some 0 = sym e ∙ ap (λ (p : Result A Halt × Option ℕ). p.1) (run_stops walk most less) in
            let q : left ≡ 0 = cc in
            omega arith
        | inr fits ↦
            let p : Some left ≡ Some (most - walk.visits) = sym e ∙ ap (λ (p : Result A Halt × Option ℕ). p.1) (run_fits walk most fits) in
            let q : left ≡ most - walk.visits = cc in
            omega arith
      ]

  -- a bound stays a bound
  pub left_some : (walk : Walk A) (most : ℕ) → (run walk (Some most)).1 ≡ None → ⊥
  left_some walk most e =
      let none : Option ℕ = None in
      elim (cases_lt most walk.visits) [
        | inl less ↦ let p : none ≡ Some 0 = sym e ∙ ap (λ (p : Result A Halt × Option ℕ). p.1) (run_stops walk most less) in absurd cc
        | inr fits ↦ let p : none ≡ Some (most - walk.visits) = sym e ∙ ap (λ (p : Result A Halt × Option ℕ). p.1) (run_fits walk most fits) in absurd cc
      ]

  -- a count of what was made
  pub visits_are : (walk : Walk A) (most n : ℕ) (left : Option ℕ) → (run walk (Some most)).1 ≡ left → IfSome left (λ k. n ≡ most - k) → n ≡ min walk.visits most
  visits_are walk most n None e h = absurd (left_some walk most e)
  visits_are walk most n (Some k) e h = h ∙ made_left walk most k e

  answered_ok : (o : Option A) → result_ok (answered o) ≡ o
  answered_ok (Some a) = refl
  answered_ok None = refl

  -- what an endless walk answers
  pub answer_is : (walk : Walk A) (r : Result A Halt) (left : Option ℕ) → run walk None ≡ (r, left) → result_ok r ≡ walk.answer
  answer_is walk r left e = ap (λ (p : Result A Halt × Option ℕ). result_ok p.0) (sym e) ∙ answered_ok walk.answer

pub none_is : {A : Type 0} (o : Option A) → ((a : A) → o ≡ Some a → ⊥) → o ≡ None
none_is None h = refl
none_is (Some a) h = absurd (h a refl)

-- what follows where a walk answered true
abbrev pub run_on : Result Bool Halt → Option ℕ → Walk Bool → Result Bool Halt × Option ℕ
run_on (Ok true) left others = run others left
run_on result left others = (result, left)

when_fits : (answer : Option Bool) (visits : ℕ) (others : Walk Bool) (left : ℕ) → visits ≤ left
    → run (when answer visits others) (Some left) ≡ run_on (answered answer) (Some (left - visits)) others
when_fits (Some true) visits others left h =
    let pair : ℕ → Result Bool Halt × Option ℕ = λ n. (answered others.answer, Some n) in
    elim (cases_lt left (visits + others.visits)) [
      | inl less ↦ run_stops (after visits others) left less ∙ sym (run_stops others (left - visits) (omega arith))
      | inr fits ↦ run_fits (after visits others) left fits ∙ (ap pair (omega arith) ∙ sym (run_fits others (left - visits) (omega arith)))
    ]
when_fits (Some false) visits others left h = run_fits (record { answer = Some false; visits = visits }) left h
when_fits None visits others left h = run_fits (record { answer = None; visits = visits }) left h

when_stops : (answer : Option Bool) (visits : ℕ) (others : Walk Bool) (left : ℕ) → left < visits → run (when answer visits others) (Some left) ≡ (Err Spent, Some 0)
when_stops (Some true) visits others left h = run_stops (after visits others) left (omega arith)
when_stops (Some false) visits others left h = run_stops (record { answer = Some false; visits = visits }) left h
when_stops None visits others left h = run_stops (record { answer = None; visits = visits }) left h

when_free : (answer : Option Bool) (visits : ℕ) (others : Walk Bool) → run (when answer visits others) None ≡ run_on (answered answer) None others
when_free (Some true) visits others = refl
when_free (Some false) visits others = refl
when_free None visits others = refl

-- a walk and, where it answers true, another one behind it
pub run_so : (walk others : Walk Bool) (left : Option ℕ) → run (if_so walk others) left ≡ run_on (run walk left).0 (run walk left).1 others
run_so walk others None = when_free walk.answer walk.visits others
run_so walk others (Some left) =
    let on : Result Bool Halt × Option ℕ → Result Bool Halt × Option ℕ = λ p. run_on p.0 p.1 others in
    elim (cases_lt left walk.visits) [
      | inl less ↦ when_stops walk.answer walk.visits others left less ∙ sym (ap on (run_stops walk left less))
      | inr fits ↦ when_fits walk.answer walk.visits others left fits ∙ sym (ap on (run_fits walk left fits))
    ]

module _ {A B : Type 0} (next : A → Walk B) where
  -- what follows a walk's answer
  abbrev pub run_next : Result A Halt → Option ℕ → Result B Halt × Option ℕ
  run_next (Ok a) left = run (next a) left
  run_next (Err halt) left = (Err halt, left)

  on_fits : (answer : Option A) (visits left : ℕ) → visits ≤ left → run (go_on answer visits next) (Some left) ≡ run_next (answered answer) (Some (left - visits))
  on_fits (Some a) visits left h =
      let pair : ℕ → Result B Halt × Option ℕ = λ n. (answered (next a).answer, Some n) in
      elim (cases_lt left (visits + (next a).visits)) [
        | inl less ↦ run_stops (after visits (next a)) left less ∙ sym (run_stops (next a) (left - visits) (omega arith))
        | inr fits ↦ run_fits (after visits (next a)) left fits ∙ (ap pair (omega arith) ∙ sym (run_fits (next a) (left - visits) (omega arith)))
      ]
  on_fits None visits left h = run_fits (record { answer = None; visits = visits }) left h

  on_stops : (answer : Option A) (visits left : ℕ) → left < visits → run (go_on answer visits next) (Some left) ≡ (Err Spent, Some 0)
  on_stops (Some a) visits left h = run_stops (after visits (next a)) left (omega arith)
  on_stops None visits left h = run_stops (record { answer = None; visits = visits }) left h

  on_free : (answer : Option A) (visits : ℕ) → run (go_on answer visits next) None ≡ run_next (answered answer) None
  on_free (Some a) visits = refl
  on_free None visits = refl

  -- a walk and another one over its answer
  pub run_then : (walk : Walk A) (left : Option ℕ) → run (and_then walk next) left ≡ run_next (run walk left).0 (run walk left).1
  run_then walk None = on_free walk.answer walk.visits
  run_then walk (Some left) =
      let on : Result A Halt × Option ℕ → Result B Halt × Option ℕ = λ p. run_next p.0 p.1 in
      elim (cases_lt left walk.visits) [
        | inl less ↦ on_stops walk.answer walk.visits left less ∙ sym (ap on (run_stops walk left less))
        | inr fits ↦ on_fits walk.answer walk.visits left fits ∙ sym (ap on (run_fits walk left fits))
      ]
