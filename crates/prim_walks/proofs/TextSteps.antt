-- Texts that are written by a walk, piece by piece.
use Rattle.std.proofs.Common.{◌≡◌, ℕ, ◌+◌, List, [], ◌∷◌, ◌++◌, Bool, false, Option, Some, None, Result, Ok, Err, length, refl, sym, ap, ◌∙◌, arith, append_assoc}
use Rattle.std.specs.Prelude.{codes}
use Rattle.std.specs.Option.{option_map}
use Rattle.std.specs.List.{flat_map}
use Rattle.std.proofs.lemmas.List.{append-nil, length-append}
use Rattle.std.proofs.lemmas.List.Concat.{flat_map-append}
use Rattle.py_primitives.specs.mpy_base.Val.{Val}
use Rattle.py_primitives.specs.py_values.Shown.{PlainHeap}
use Rattle.py_primitives.specs.py_values.Equality.{Walk, answers}
use Rattle.py_primitives.specs.Walks.{and_then, walk_map, walk_all}
use Rattle.py_primitives.specs.Texts.{joined, pair_text}
use Rattle.prim_walks.specs.declared.budget.Halt.{Halt}
use Rattle.prim_walks.specs.Runs.{run}
use Rattle.prim_walks.specs.Pens.{Wrote, Writes, Wrought}
use Rattle.prim_walks.specs.Leaves.{separator}
use Rattle.prim_walks.proofs.RunSteps.{run_next, run_then, run_answers}
use Rattle.prim_walks.proofs.PenSteps.{wrote_nothing, wrote_then, wrote_as}

module _ {A B : Type 0} (f : A → B) where
  abbrev pub mapped : Result A Halt × Option ℕ → Result B Halt × Option ℕ
  mapped (Ok a, left) = (Ok (f a), left)
  mapped (Err halt, left) = (Err halt, left)

  as_next : (walk : Walk A) (left : Option ℕ) → run (walk_map f walk) left ≡ run (and_then walk (λ a. answers (f a))) left
  as_next walk left = of_answer walk.answer refl
    where
      of_answer : (o : Option A) → walk.answer ≡ o → run (walk_map f walk) left ≡ run (and_then walk (λ a. answers (f a))) left
      of_answer (Some a) e = grind arith
      of_answer None e = grind arith

  next_mapped : (r : Result A Halt) (left : Option ℕ) → run_next (λ a. answers (f a)) r left ≡ mapped (r, left)
  next_mapped (Ok a) left = run_answers (f a) left
  next_mapped (Err halt) left = refl

  -- a walk whose answer is changed
  pub run_map : (walk : Walk A) (left : Option ℕ) → run (walk_map f walk) left ≡ mapped (run walk left)
  run_map walk left = as_next walk left ∙ (run_then (λ a. answers (f a)) walk left ∙ next_mapped (run walk left).0 (run walk left).1)

  pub map_ok : (walk : Walk A) (left new : Option ℕ) (a : A) → run walk left ≡ (Ok a, new) → run (walk_map f walk) left ≡ (Ok (f a), new)
  map_ok walk left new a e = run_map walk left ∙ ap mapped e

  pub map_err : (walk : Walk A) (left new : Option ℕ) (halt : Halt) → run walk left ≡ (Err halt, new) → run (walk_map f walk) left ≡ (Err halt, new)
  map_err walk left new halt e = run_map walk left ∙ ap mapped e

-- one item more behind others
pub joined_more : (texts : List (List ℕ)) (text : List ℕ) → joined (codes ", ") (texts ++ text ∷ []) ≡ joined (codes ", ") texts ++ (separator (length texts) ++ text)
joined_more [] text = append-nil text
joined_more (t ∷ texts) text =
    ap (λ (ys : List ℕ). t ++ ys) (flat_map-append (λ (x : List ℕ). codes ", " ++ x) texts (text ∷ []) ∙ ap (λ (ys : List ℕ). flat_map (λ (x : List ℕ). codes ", " ++ x) texts ++ ys) (append-nil (codes ", " ++ text)))
    ∙ sym (append_assoc t (flat_map (λ (x : List ℕ). codes ", " ++ x) texts) (codes ", " ++ text))

-- the items in front of a place have these texts, and what is left gives the whole answer
pub record Progress {P X : Type 0} (Takes : P → List ℕ → P → Type 0) (walk : X → Walk (List ℕ)) (all rest : List X) (at : ℕ) (first left : Option ℕ) (old now : P) : Type 0 where
  pub texts : List (List ℕ)
  pub count : length texts ≡ at
  pub ran : run (walk_all walk all) first ≡ run (walk_map (λ others. texts ++ others) (walk_all walk rest)) left
  pub wrote : Wrote Takes old (joined (codes ", ") texts) now

same_answer : (o : Option (List (List ℕ))) → o ≡ option_map (λ others. [] ++ others) o
same_answer (Some texts) = refl
same_answer None = refl

assoc_answer : (texts : List (List ℕ)) (text : List ℕ) (p : Result (List (List ℕ)) Halt × Option ℕ)
    → mapped (λ others. texts ++ others) (mapped (λ others. text ∷ others) p) ≡ mapped (λ others. (texts ++ text ∷ []) ++ others) p
assoc_answer texts text (Ok others, left) = ap (λ (ys : List (List ℕ)). (Ok ys, left)) (sym (append_assoc texts (text ∷ []) others))
assoc_answer texts text (Err halt, left) = refl

module _ {X : Type 0} (walk : X → Walk (List ℕ)) where
  more : (texts : List (List ℕ)) (x : X) (rest : List X) (left : Option ℕ) → run (walk_map (λ others. texts ++ others) (walk_all walk (x ∷ rest))) left
      ≡ mapped (λ others. texts ++ others) (run_next (λ text. walk_map (λ others. text ∷ others) (walk_all walk rest)) (run (walk x) left).0 (run (walk x) left).1)
  more texts x rest left =
      run_map (λ others. texts ++ others) (walk_all walk (x ∷ rest)) left
      ∙ ap (mapped (λ others. texts ++ others)) (run_then (λ text. walk_map (λ others. text ∷ others) (walk_all walk rest)) (walk x) left)

module _ {P X : Type 0} {Takes : P → List ℕ → P → Type 0} (walk : X → Walk (List ℕ)) where
  pub progress_start : (all : List X) (left : Option ℕ) (pen : P) → Progress Takes walk all all 0 left left pen pen
  progress_start all left pen =
      let w : Walk (List (List ℕ)) = walk_all walk all in
      record {
        texts = [];
        count = refl;
        ran = ap (λ (o : Option (List (List ℕ))). run (record { answer = o; visits = w.visits }) left) (same_answer w.answer);
        wrote = wrote_nothing pen;
      }

  -- an item was written
  pub progress_step : {all rest : List X} {at : ℕ} {first left new : Option ℕ} {old now mid last : P} (x : X) (text : List ℕ) → Progress Takes walk all (x ∷ rest) at first left old now
      → Wrote Takes now (separator at) mid → run (walk x) left ≡ (Ok text, new) → Wrote Takes mid text last → Progress Takes walk all rest (at + 1) first new old last
  progress_step {all} {rest} {at} {first} {left} {new} {old} {now} {mid} {last} x text p sep e h =
      let next : List ℕ → Walk (List (List ℕ)) = λ t. walk_map (λ others. t ∷ others) (walk_all walk rest) in
      let front = mapped (λ others. p.texts ++ others) in
      record {
        texts = p.texts ++ text ∷ [];
        count = let n = length-append p.texts (text ∷ []) in let k = p.count in omega (arith, n, k);
        ran =
            p.ran ∙ (more walk p.texts x rest left
            ∙ (ap (λ (q : Result (List ℕ) Halt × Option ℕ). front (run_next next q.0 q.1)) e
            ∙ (ap front (run_map (λ others. text ∷ others) (walk_all walk rest) new)
            ∙ (assoc_answer p.texts text (run (walk_all walk rest) new) ∙ sym (run_map (λ others. (p.texts ++ text ∷ []) ++ others) (walk_all walk rest) new)))));
        wrote =
            let behind = wrote_as sep (ap separator (sym p.count)) in
            wrote_as (wrote_then p.wrote (wrote_then behind h)) (sym (joined_more p.texts text));
      }

  -- an item went too deep, or no visit was left
  pub progress_err : {all rest : List X} {at : ℕ} {first left new : Option ℕ} {old now : P} (x : X) (halt : Halt) → Progress Takes walk all (x ∷ rest) at first left old now → run (walk x) left ≡ (Err halt, new)
      → run (walk_all walk all) first ≡ (Err halt, new)
  progress_err {all} {rest} {at} {first} {left} x halt p e =
      let next : List ℕ → Walk (List (List ℕ)) = λ t. walk_map (λ others. t ∷ others) (walk_all walk rest) in
      p.ran ∙ (more walk p.texts x rest left ∙ ap (λ (q : Result (List ℕ) Halt × Option ℕ). mapped (λ others. p.texts ++ others) (run_next next q.0 q.1)) e)

  -- all were written
  pub progress_end : {all : List X} {at : ℕ} {first left : Option ℕ} {old now : P} → Progress Takes walk all [] at first left old now → Writes Takes (joined (codes ", ")) (run (walk_all walk all) first) left old now
  progress_end {all} {at} {first} {left} p =
      record {
        answer = p.texts;
        is = p.ran ∙ (map_ok (λ others. p.texts ++ others) (answers []) left left [] (run_answers [] left) ∙ ap (λ (ys : List (List ℕ)). (Ok ys, left)) (append-nil p.texts));
        wrote = p.wrote;
      }

prefixed : (name front end : List ℕ) (p : Result (List (List ℕ)) Halt × Option ℕ)
    → mapped (λ texts. (name ++ front) ++ joined (codes ", ") texts ++ end) p ≡ mapped (λ text. name ++ text) (mapped (λ texts. front ++ joined (codes ", ") texts ++ end) p)
prefixed name front end (Ok texts, left) =
    let both = joined (codes ", ") texts in
    ap (λ (ys : List ℕ). (Ok ys, left)) (ap (λ (ys : List ℕ). ys ++ end) (append_assoc name front both) ∙ append_assoc name (front ++ both) end)
prefixed name front end (Err halt, left) = refl

run_prefixed : (name front end : List ℕ) (walk : Walk (List (List ℕ))) (first : Option ℕ)
    → run (walk_map (λ texts. (name ++ front) ++ joined (codes ", ") texts ++ end) walk) first ≡ mapped (λ text. name ++ text) (run (walk_map (λ texts. front ++ joined (codes ", ") texts ++ end) walk) first)
run_prefixed name front end walk first =
    run_map (λ texts. (name ++ front) ++ joined (codes ", ") texts ++ end) walk first
    ∙ (prefixed name front end (run walk first) ∙ sym (ap (mapped (λ text. name ++ text)) (run_map (λ texts. front ++ joined (codes ", ") texts ++ end) walk first)))

module _ {P : Type 0} (Takes : P → List ℕ → P → Type 0) where
  -- the same walk, written otherwise
  pub wrought_by : {A : Type 0} (text : A → List ℕ) (r : Result (Unit {0}) Halt) (ran ran' : Result A Halt × Option ℕ) (left : Option ℕ) (old new : P) → ran ≡ ran' → Wrought Takes text ran' r left old new → Wrought Takes text ran r left old new
  wrought_by text (Ok done) ran ran' left old new e h = record { answer = h.answer; is = e ∙ h.is; wrote = h.wrote }
  wrought_by text (Err halt) ran ran' left old new e h = e ∙ h

  -- texts between two others
  pub between : (front end : List ℕ) (walk : Walk (List (List ℕ))) (first left : Option ℕ) (old mid behind new : P) → Wrote Takes old front mid → Writes Takes (joined (codes ", ")) (run walk first) left mid behind → Wrote Takes behind end new
      → Writes Takes (λ (text : List ℕ). text) (run (walk_map (λ texts. front ++ joined (codes ", ") texts ++ end) walk) first) left old new
  between front end walk first left old mid behind new h w i =
      record {
        answer = front ++ joined (codes ", ") w.answer ++ end;
        is = map_ok (λ texts. front ++ joined (codes ", ") texts ++ end) walk first left w.answer w.is;
        wrote = wrote_then (wrote_then h w.wrote) i;
      }

  -- a text in front of such ones
  pub behind_text : (name front end : List ℕ) (walk : Walk (List (List ℕ))) (r : Result (Unit {0}) Halt) (first left : Option ℕ) (old mid new : P) → Wrote Takes old name mid
      → Wrought Takes (λ (text : List ℕ). text) (run (walk_map (λ texts. front ++ joined (codes ", ") texts ++ end) walk) first) r left mid new
      → Wrought Takes (λ (text : List ℕ). text) (run (walk_map (λ texts. (name ++ front) ++ joined (codes ", ") texts ++ end) walk) first) r left old new
  behind_text name front end walk (Ok done) first left old mid new h w =
      record { answer = name ++ w.answer; is = run_prefixed name front end walk first ∙ ap (mapped (λ text. name ++ text)) w.is; wrote = wrote_then h w.wrote }
  behind_text name front end walk (Err halt) first left old mid new h w = run_prefixed name front end walk first ∙ ap (mapped (λ text. name ++ text)) w

-- a key and its value
module _ (heap : PlainHeap) (write : Bool → Val → Walk (List ℕ)) (key x : Val) where
  abbrev value_behind : List ℕ → Walk (List ℕ)
  value_behind text = walk_map (λ other. text ++ codes ": " ++ other) (write false x)

  pub pair_err : (halt : Halt) (first left : Option ℕ) → run (write false key) first ≡ (Err halt, left) → run (pair_text heap write (key, x)) first ≡ (Err halt, left)
  pair_err halt first left e = run_then value_behind (write false key) first ∙ ap (λ (q : Result (List ℕ) Halt × Option ℕ). run_next value_behind q.0 q.1) e

  pub pair_end : {P : Type 0} (Takes : P → List ℕ → P → Type 0) (r : Result (Unit {0}) Halt) (first mid left : Option ℕ) (old here there new : P) → Writes Takes (λ (text : List ℕ). text) (run (write false key) first) mid old here
      → Wrote Takes here (codes ": ") there → Wrought Takes (λ (text : List ℕ). text) (run (write false x) mid) r left there new → Wrought Takes (λ (text : List ℕ). text) (run (pair_text heap write (key, x)) first) r left old new
  pair_end Takes (Ok done) first mid left old here there new h s w =
      record {
        answer = h.answer ++ codes ": " ++ w.answer;
        is = run_then value_behind (write false key) first
            ∙ (ap (λ (q : Result (List ℕ) Halt × Option ℕ). run_next value_behind q.0 q.1) h.is ∙ map_ok (λ other. h.answer ++ codes ": " ++ other) (write false x) mid left w.answer w.is);
        wrote = wrote_then (wrote_then h.wrote s) w.wrote;
      }
  pair_end Takes (Err halt) first mid left old here there new h s w =
      run_then value_behind (write false key) first
      ∙ (ap (λ (q : Result (List ℕ) Halt × Option ℕ). run_next value_behind q.0 q.1) h.is ∙ map_err (λ other. h.answer ++ codes ": " ++ other) (write false x) mid left halt w)
