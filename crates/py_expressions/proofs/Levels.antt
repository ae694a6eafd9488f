-- A sum of a level, beside a loop over the levels.
use Rattle.std.proofs.Common.{◌≡◌, ℕ, zero, suc, ◌+◌, ◌-◌, ◌≤◌, Ok, Err, refl, ap, arith}
use Rattle.py_tree.specs.declared.expr.Expr.{Expr}
use Rattle.py_expressions.specs.declared.grammar.Rule.{Rule}
use Rattle.py_expressions.specs.Input.{Parser, Input, Outcome, and_then}
use Rattle.py_expressions.specs.Reading.{sum, whole_chain}

module _ (inner : Rule → Parser Expr) (i : Input) where
  looser : (level more top e : ℕ) → top ≡ more + level → sum inner level i ≡ Err e → sum inner top i ≡ Err e
  unfolding sum
  looser level zero top e at h = let same : top ≡ level = omega arith in rw same h
  looser level (suc more) top e at h =
      let next : top ≡ suc (more + level) = omega arith in
      rw next (ap (λ (o : Outcome Expr). and_then o (whole_chain (sum inner (more + level)) (suc (more + level)))) (looser level more (more + level) e refl h))

  -- what the operators of one level more make of what was read
  pub sum_longer : (level : ℕ) (x : Expr) (j : Input) → sum inner level i ≡ Ok (x, j) → sum inner (level + 1) i ≡ whole_chain (sum inner level) (level + 1) x j
  unfolding sum
  sum_longer level x j h =
      let more : level + 1 ≡ suc level = omega arith in
      rw more (ap (λ (o : Outcome Expr). and_then o (whole_chain (sum inner level) (suc level))) h)

  -- where nothing is read at one level, nothing is at a looser one
  pub sum_refused : (level top : ℕ) (e : ℕ) → level ≤ top → sum inner level i ≡ Err e → sum inner top i ≡ Err e
  sum_refused level top e below h =
      let all : top ≡ (top - level) + level = omega arith in
      looser level (top - level) top e all h
