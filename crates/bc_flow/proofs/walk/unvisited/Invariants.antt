use Rattle.std.proofs.Common.{◌≡◌, ℕ, Some}
use Rattle.std.specs.Prelude.{slice_get}
use Rattle.bc_shapes.specs.declared.span.Span.{Span}
use Rattle.bc_flow.proofs.walk.unvisited.Given as goal

abbrev pub invariant-loop-i : goal.invariant-loop-i
invariant-loop-i l = (p : ℕ) (s : Span) → slice_get l.changes.items p ≡ Some (Some s) → ⊥
