-- Entries of a line table: what is written for a change passes its bytes and its lines.
use Rattle.std.proofs.Common.{◌≡◌, ℕ, zero, suc, ◌+◌, ◌-◌, ◌<◌, ◌≤◌, List, [], ◌++◌, Bool, true, false, cond, eqb, ◌&&◌, ltb, refl, ap, sym, ◌∙◌, arith, append_assoc}
use Rattle.std.proofs.lemmas.Bool.Decides.{nat_tests}
use Rattle.bc_prelude.specs.Lines.{is_short, bytes_taken, lines_taken, entry_bytes, change_in, change}

-- what a change takes of its bytes and lines
abbrev pub bytes_behind : ℕ → ℕ
bytes_behind bytes = bytes - bytes_taken bytes

abbrev pub lines_behind : ℕ → ℕ → ℕ
lines_behind bytes lines = lines - lines_taken bytes lines

-- each entry takes something
pub takes : (bytes lines : ℕ) → 0 < bytes + lines → bytes_behind bytes + lines_behind bytes lines < bytes + lines
takes bytes lines some = grind (arith, nat_tests)

all_taken : (bytes lines : ℕ) → bytes + lines ≤ 0 → (eqb bytes 0 && eqb lines 0) ≡ true
all_taken bytes lines none = grind (arith, nat_tests)

some_left : (bytes lines : ℕ) → (eqb bytes 0 && eqb lines 0) ≡ false → 0 < bytes + lines
some_left zero zero e = absurd cc
some_left zero (suc lines) e = omega arith
some_left (suc bytes) lines e = omega arith

none_left : (bytes lines : ℕ) → 0 < bytes + lines → (eqb bytes 0 && eqb lines 0) ≡ false
none_left zero zero some = absurd (omega arith)
none_left zero (suc lines) some = grind (arith, nat_tests)
none_left (suc bytes) lines some = grind (arith, nat_tests)

-- an entry, and what follows it
unfoldable pub with_entry : ℕ → ℕ → List ℕ → List ℕ
with_entry bytes lines others = entry_bytes (is_short bytes lines) (bytes_taken bytes) (lines_taken bytes lines) ++ others

pub change_end : (steps bytes lines : ℕ) → bytes + lines ≤ 0 → change_in steps bytes lines ≡ []
unfolding change_in with_entry
change_end zero bytes lines none = refl
change_end (suc steps) bytes lines none =
    ap (λ t. cond t [] (with_entry bytes lines (change_in steps (bytes_behind bytes) (lines_behind bytes lines)))) (all_taken bytes lines none)

pub change_step : (steps bytes lines : ℕ) → 0 < bytes + lines → change_in (suc steps) bytes lines ≡ with_entry bytes lines (change_in steps (bytes_behind bytes) (lines_behind bytes lines))
unfolding change_in with_entry
change_step steps bytes lines some =
    ap (λ t. cond t [] (with_entry bytes lines (change_in steps (bytes_behind bytes) (lines_behind bytes lines)))) (none_left bytes lines some)

-- more steps than a change has entries change nothing
pub steps_enough : (j k bytes lines : ℕ) → bytes + lines ≤ j → bytes + lines ≤ k → change_in j bytes lines ≡ change_in k bytes lines
steps_enough zero k bytes lines h i = change_end zero bytes lines h ∙ sym (change_end k bytes lines h)
steps_enough (suc j) zero bytes lines h i = change_end (suc j) bytes lines i ∙ sym (change_end zero bytes lines i)
steps_enough (suc j) (suc k) bytes lines h i =
    elim (ltb 0 (bytes + lines)) as (λ t. ltb 0 (bytes + lines) ≡ t → change_in (suc j) bytes lines ≡ change_in (suc k) bytes lines) [
      | true ↦ λ e.
          let some : 0 < bytes + lines = grind (arith, nat_tests) in
          let falls = takes bytes lines some in
          change_step j bytes lines some ∙ (ap (with_entry bytes lines) (steps_enough j k (bytes_behind bytes) (lines_behind bytes lines) (omega arith) (omega arith)) ∙ sym (change_step k bytes lines some))
      | false ↦ λ e.
          let none : bytes + lines ≤ 0 = grind (arith, nat_tests) in
          change_end (suc j) bytes lines none ∙ sym (change_end (suc k) bytes lines none)
    ] refl

-- a change begins with an entry
pub change_more : (bytes lines : ℕ) → 0 < bytes + lines → change bytes lines ≡ entry_bytes (is_short bytes lines) (bytes_taken bytes) (lines_taken bytes lines) ++ change (bytes_behind bytes) (lines_behind bytes lines)
unfolding change with_entry
change_more bytes lines some =
    let falls = takes bytes lines some in
    steps_enough (bytes + lines) (suc (bytes + lines)) bytes lines (omega arith) (omega arith) ∙ (change_step (bytes + lines) bytes lines some ∙ ap (with_entry bytes lines) (steps_enough (bytes + lines) (bytes_behind bytes + lines_behind bytes lines) (bytes_behind bytes) (lines_behind bytes lines) (omega arith) (omega arith)))

pub change_none : (bytes lines : ℕ) → bytes + lines ≤ 0 → change bytes lines ≡ []
unfolding change
change_none bytes lines none = change_end (bytes + lines) bytes lines none

-- an entry that is written leaves the rest of the change
pub entry_taken : (out whole next : List ℕ) (bytes lines passed risen : ℕ) (short : Bool) → 0 < bytes + lines → short ≡ is_short bytes lines → passed ≡ bytes_taken bytes → risen ≡ lines_taken bytes lines → next ≡ out ++ entry_bytes short passed risen → out ++ change bytes lines ≡ whole → next ++ change (bytes - passed) (lines - risen) ≡ whole
entry_taken out whole next bytes lines passed risen short some s p r e w =
    let more = change_more bytes lines some in
    let there : change bytes lines ≡ entry_bytes short passed risen ++ change (bytes - passed) (lines - risen) = cc in
    let together = append_assoc out (entry_bytes short passed risen) (change (bytes - passed) (lines - risen)) in
    ap (λ (z : List ℕ). z ++ change (bytes - passed) (lines - risen)) e ∙ (together ∙ (ap (λ (z : List ℕ). out ++ z) (sym there) ∙ w))

-- what is added to an end is added behind what was there at first
pub grown : (start out next front text : List ℕ) → out ≡ start ++ front → next ≡ out ++ text → (whole : List ℕ) × (next ≡ start ++ whole)
grown start out next front text e f =
    (front ++ text, f ∙ (ap (λ (z : List ℕ). z ++ text) e ∙ append_assoc start front text))
