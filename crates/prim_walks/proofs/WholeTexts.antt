-- Whole texts, and how long they are.
use Rattle.std.proofs.Common.{◌≡◌, ℕ, ◌+◌, ◌-◌, ◌^◌, ◌≤◌, List, [], ◌∷◌, ◌++◌, append_assoc, Bool, true, false, Option, Some, None, Result, Ok, Err, length, min, refl, sym, ap, subst, ◌∙◌, arith}
use Rattle.std.specs.Prelude.{IfSome}
use Rattle.std.specs.List.{flat_map}
use Rattle.std.proofs.lemmas.List.{length-append, append-nil}
use Rattle.py_primitives.specs.mpy_base.Val.{Val}
use Rattle.py_primitives.specs.py_values.Shown.{PlainHeap}
use Rattle.py_primitives.specs.py_values.Equality.{Walk}
use Rattle.py_primitives.specs.Texts.{str_of, repr_of, write_within}
use Rattle.prim_walks.specs.declared.budget.Halt.{Halt}
use Rattle.prim_walks.specs.Runs.{run}
use Rattle.prim_walks.specs.Pens.{Chain, Wrote, Writes, Wrought}
use Rattle.prim_walks.specs.Whole.{text_of, WroteText}
use Rattle.prim_walks.proofs.RunSteps.{answer_is}

str_is : (heap : PlainHeap) (v : Val) → str_of heap v ≡ write_within heap 32 true v
unfolding str_of
str_is heap v = refl

repr_is : (heap : PlainHeap) (v : Val) → repr_of heap v ≡ write_within heap 32 false v
unfolding repr_of
repr_is heap v = refl

pub text_is : (heap : PlainHeap) (raw : Bool) (v : Val) → text_of heap raw v ≡ write_within heap 32 raw v
text_is heap true v = str_is heap v
text_is heap false v = repr_is heap v

module _ {P : Type 0} {Takes : P → List ℕ → P → Type 0} (heap : PlainHeap) (raw : Bool) (v : Val) where
  pub whole : {left : Option ℕ} {old new : P} → Writes Takes (λ (text : List ℕ). text) (run (write_within heap 32 raw v) None) left old new → WroteText Takes (text_of heap raw v).answer old new
  whole {left} w =
      record {
        text = w.answer;
        is = ap (λ (walk : Walk (List ℕ)). walk.answer) (text_is heap raw v) ∙ sym (answer_is (write_within heap 32 raw v) (Ok w.answer) left w.is);
        wrote = w.wrote;
      }

pub no_text : (heap : PlainHeap) (raw : Bool) (v : Val) (halt : Halt) (left : Option ℕ) → run (write_within heap 32 raw v) None ≡ (Err halt, left) → (text_of heap raw v).answer ≡ None
no_text heap raw v halt left e = ap (λ (walk : Walk (List ℕ)). walk.answer) (text_is heap raw v) ∙ sym (answer_is (write_within heap 32 raw v) (Err halt) left e)

-- what is left of the visits
pub wrought_left : {P A : Type 0} (Takes : P → List ℕ → P → Type 0) (text : A → List ℕ) (r : Result (Unit {0}) Halt) (ran : Result A Halt × Option ℕ) (left : Option ℕ) (old new : P) → Wrought Takes text ran r left old new → ran.1 ≡ left
wrought_left {A = A} Takes text (Ok done) ran left old new h = ap (λ (p : Result A Halt × Option ℕ). p.1) h.is
wrought_left {A = A} Takes text (Err halt) ran left old new h = ap (λ (p : Result A Halt × Option ℕ). p.1) h

-- a pen that counts bytes
module _ {P : Type 0} (Takes : P → List ℕ → P → Type 0) (bytes : P → ℕ) (counts : (old : P) (piece : List ℕ) (new : P) → Takes old piece new → bytes new ≡ min (bytes old + length piece) (2 ^ 64 - 1)) where
  chain_counts : (pieces : List (List ℕ)) (old new : P) → bytes old ≤ 2 ^ 64 - 1 → Chain Takes old pieces new → bytes new ≡ min (bytes old + length (flat_map (λ (piece : List ℕ). piece) pieces)) (2 ^ 64 - 1)
  chain_counts [] old new low h = let e = ap bytes h in omega (arith, e, low)
  chain_counts (piece ∷ pieces) old new low h =
      let e = counts old piece h.mid h.taken in
      let f = chain_counts pieces h.mid new (omega (arith, e)) h.rest in
      let n = length-append piece (flat_map (λ (piece : List ℕ). piece) pieces) in
      omega (arith, e, f, n)

  pub wrote_counts : (text : List ℕ) (old new : P) → bytes old ≡ 0 → Wrote Takes old text new → bytes new ≡ min (length text) (2 ^ 64 - 1)
  wrote_counts text old new zero h =
      let e = chain_counts h.pieces old new (omega (arith, zero)) h.chain in
      let n = ap (λ (ys : List ℕ). length ys) h.whole in
      omega (arith, e, n, zero)

-- a pen that puts pieces behind its bytes, where it has room
module _ {P : Type 0} (Takes : P → List ℕ → P → Type 0) (items : P → List ℕ) (room : P → ℕ)
    (puts : (old : P) (piece : List ℕ) (new : P) → Takes old piece new → length (items old) + length piece ≤ room old → items new ≡ items old ++ piece)
    (keeps : (old : P) (piece : List ℕ) (new : P) → Takes old piece new → room old ≤ room new) where
  chain_puts : (pieces : List (List ℕ)) (old new : P) → length (items old) + length (flat_map (λ (piece : List ℕ). piece) pieces) ≤ room old → Chain Takes old pieces new
      → items new ≡ items old ++ flat_map (λ (piece : List ℕ). piece) pieces
  chain_puts [] old new fits h = ap items h ∙ sym (append-nil (items old))
  chain_puts (piece ∷ pieces) old new fits h =
      let rest = flat_map (λ (piece : List ℕ). piece) pieces in
      let both = length-append piece rest in
      let put = puts old piece h.mid h.taken (omega (arith, fits, both)) in
      let now = ap (λ (ys : List ℕ). length ys) put in
      let front = length-append (items old) piece in
      let more = keeps old piece h.mid h.taken in
      chain_puts pieces h.mid new (omega (arith, fits, both, now, front, more)) h.rest
      ∙ (ap (λ (ys : List ℕ). ys ++ rest) put ∙ append_assoc (items old) piece rest)

  pub wrote_puts : (text : List ℕ) (old new : P) → Wrote Takes old text new → items old ≡ [] → length text ≤ room old → items new ≡ text
  wrote_puts text old new h none fits =
      let all = ap (λ (ys : List ℕ). length ys) h.whole in
      let empty = ap (λ (ys : List ℕ). length ys) none in
      chain_puts h.pieces old new (omega (arith, fits, all, empty)) h.chain ∙ (ap (λ (ys : List ℕ). ys ++ flat_map (λ (piece : List ℕ). piece) h.pieces) none ∙ h.whole)

-- the room that a text asks for, where it is there
pub fits : {room : ℕ} {answer : Option (List ℕ)} (text : List ℕ) → answer ≡ Some text → IfSome answer (λ text. length text ≤ room) → length text ≤ room
fits {room} text is low = subst (λ (answer : Option (List ℕ)). IfSome answer (λ text. length text ≤ room)) is low
