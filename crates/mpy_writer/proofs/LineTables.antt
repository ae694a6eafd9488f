-- The line table of a code that is written.
use Rattle.std.proofs.Common.{◌≡◌, ℕ, suc, ◌+◌, ◌<◌, ◌≤◌, Bool, true, false, cond, eqb, List, [], ◌∷◌, length, map, refl, sym, ap, subst, ◌∙◌, arith}
use Rattle.std.specs.List.{zip, AllByRecursion}
use Rattle.std.proofs.lemmas.Bool.{lt-ltb, le-ltb, eqb-true}
use Rattle.mpy_tree.specs.bc_ops.declared.instr.Instr.{Instr}
use Rattle.mpy_tree.specs.bc_ops.Code.{spelling}
use Rattle.mpy_tree.specs.bc_prelude.Lines.{RisesFrom, line_among}
use Rattle.mpy_tree.specs.Canonical.{changes, offsets}
use Rattle.mpy_writer.specs.Writable.{NeverFall}

abbrev pub IsSome : Instr → Type 0
IsSome instr = 1 ≤ length (spelling instr)

-- neither offsets nor lines fall
pub rises_from : (passed at line : ℕ) (instrs : List Instr) (lines : List ℕ) → passed ≤ at → NeverFall line lines → RisesFrom passed line (zip (offsets at instrs) lines)
rises_from passed at line [] lines le h = tt
rises_from passed at line (i ∷ is) [] le h = tt
rises_from passed at line (i ∷ is) (l ∷ ls) le h = (le, h.0, rises_from at (at + length (spelling i)) l is ls (omega arith) h.1)

weaker : (o p line : ℕ) (pairs : List (ℕ × ℕ)) → o ≤ p → RisesFrom p line pairs → RisesFrom o line pairs
weaker o p line [] le h = tt
weaker o p line (pair ∷ pairs) le h = let next = h.0 in (omega (arith, le, next), h.1, h.2)

pub rises_changes : (o line : ℕ) (pairs : List (ℕ × ℕ)) → RisesFrom o line pairs → RisesFrom o line (changes line pairs)
rises_changes o line [] h = tt
rises_changes o line (pair ∷ pairs) h = by_test (eqb pair.1 line) refl (rises_changes pair.0 pair.1 pairs h.2) where
  by_test : (b : Bool) → eqb pair.1 line ≡ b → RisesFrom pair.0 pair.1 (changes pair.1 pairs) → RisesFrom o line (cond b (changes line pairs) (pair ∷ changes pair.1 pairs))
  by_test false e rest = (h.0, h.1, rest)
  by_test true e rest =
      let same : pair.1 ≡ line = eqb-true pair.1 line e in
      weaker o pair.0 line (changes line pairs) h.0 (subst (λ (n : ℕ). RisesFrom pair.0 n (changes n pairs)) same rest)

-- an offset in front of those that begin lines
below : (line o : ℕ) (pairs : List (ℕ × ℕ)) → AllByRecursion (λ pair. o < pair.0) pairs → line_among line (changes line pairs) o ≡ line
below line o [] h = refl
below line o (pair ∷ pairs) h = by_test (eqb pair.1 line) (below line o pairs h.1) where
  by_test : (b : Bool) → line_among line (changes line pairs) o ≡ line → line_among line (cond b (changes line pairs) (pair ∷ changes pair.1 pairs)) o ≡ line
  by_test true rest = rest
  by_test false rest = ap (λ (b : Bool). cond b line (line_among pair.1 (changes pair.1 pairs) o)) (lt-ltb o pair.0 h.0)

-- and one behind
behind : (line at l o : ℕ) (pairs : List (ℕ × ℕ)) → at ≤ o → line_among line (changes line ((at, l) ∷ pairs)) o ≡ line_among l (changes l pairs) o
behind line at l o pairs le = by_test (eqb l line) refl where
  by_test : (b : Bool) → eqb l line ≡ b → line_among line (cond b (changes line pairs) ((at, l) ∷ changes l pairs)) o ≡ line_among l (changes l pairs) o
  by_test true e = let same : line ≡ l = sym (eqb-true l line e) in ap (λ (n : ℕ). line_among n (changes n pairs) o) same
  by_test false e = ap (λ (b : Bool). cond b line (line_among l (changes l pairs) o)) (le-ltb o at le)

above : (bound at : ℕ) (instrs : List Instr) → bound ≤ at → AllByRecursion (λ o. bound ≤ o) (offsets at instrs)
above bound at [] le = tt
above bound at (i ∷ is) le = (le, above bound (at + length (spelling i)) is (omega (arith, le)))

pairs_above : (o : ℕ) (os ls : List ℕ) → AllByRecursion (λ p. suc o ≤ p) os → AllByRecursion (λ pair. o < pair.0) (zip os ls)
pairs_above o [] ls h = tt
pairs_above o (p ∷ os) [] h = tt
pairs_above o (p ∷ os) (l ∷ ls) h = let lt = h.0 in (omega (arith, lt), pairs_above o os ls h.1)

same_map : (f g : ℕ → ℕ) (P : ℕ → Type 0) (xs : List ℕ) → AllByRecursion P xs → ((x : ℕ) → P x → f x ≡ g x) → map f xs ≡ map g xs
same_map f g P [] h same = refl
same_map f g P (x ∷ xs) h same = ap (λ (y : ℕ). y ∷ map f xs) (same x h.0) ∙ ap (λ (ys : List ℕ). g x ∷ ys) (same_map f g P xs h.1 same)

-- each instruction is given its line
pub lines_among : (line at : ℕ) (instrs : List Instr) (lines : List ℕ) → AllByRecursion IsSome instrs → length lines ≡ length instrs
    → map (line_among line (changes line (zip (offsets at instrs) lines))) (offsets at instrs) ≡ lines
lines_among line at [] [] some e = refl
lines_among line at [] (l ∷ ls) some e = absurd cc
lines_among line at (i ∷ is) [] some e = absurd cc
lines_among line at (i ∷ is) (l ∷ ls) some e =
    let next = at + length (spelling i) in
    let rest = zip (offsets next is) ls in
    let size = some.0 in
    let head = behind line at l at rest (omega arith) ∙ below l at rest (pairs_above at (offsets next is) ls (above (suc at) next is (omega (arith, size)))) in
    let tail = same_map (line_among line (changes line ((at, l) ∷ rest))) (line_among l (changes l rest)) (λ o. at ≤ o) (offsets next is) (above at next is (omega arith)) (λ o le. behind line at l o rest le)
    ∙ lines_among l next is ls some.1 (omega (arith, e)) in
    ap (λ (n : ℕ). n ∷ map (line_among line (changes line ((at, l) ∷ rest))) (offsets next is)) head ∙ ap (λ (ns : List ℕ). l ∷ ns) tail
