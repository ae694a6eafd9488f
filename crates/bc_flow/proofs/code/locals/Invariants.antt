use Rattle.std.proofs.Common.{◌≡◌, ◌≤◌, drop}
use Rattle.std.specs.Prelude.{max}
use Rattle.bc_flow.specs.Code.{locals}
use Rattle.bc_flow.proofs.code.locals.Given as goal

abbrev pub invariant-loop-item : goal.invariant-loop-item
invariant-loop-item l = (max l.most (locals l.code.arguments (drop l.item-index l.code.items.items)) ≡ locals l.code.arguments l.code.items.items) × (l.code.arguments ≤ l.most)
