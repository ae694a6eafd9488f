use Rattle.std.proofs.Common.{◌≡◌, [], below_more, inl, inr, ◌∙◌, arith}
use Rattle.std.proofs.lemmas.Bool.{cases_lt}
use Rattle.std.specs.Prelude.{length}
use Rattle.py_scopes.specs.Names.{names_in}
use Rattle.py_scopes.proofs.Tables.{names_at, names_past, no_keys}
use Rattle.py_scopes.proofs.names.are_empty.Goals as goal

pub loop-set-init : goal.loop-set-init
loop-set-init c f h = absurd (omega arith)

pub loop-set-preserved : goal.loop-set-preserved
loop-set-preserved c f h =
    below_more (λ k. names_in c.args.sets.now k ≡ []) c.loop-set.set-index c.loop-set.invariant
    (names_at c.args.sets.now c.loop-set.set-index c.set-item.result c.loop-set-test.true c.set-item.is ∙ no_keys c.set-item.result.keys (omega arith)) f (omega arith)

pub returns : goal.returns
returns c tells f =
    elim (cases_lt f (length c.args.sets.now)) [
      | inl h ↦ c.loop-set.invariant f (omega arith)
      | inr h ↦ names_past c.args.sets.now f h
    ]
