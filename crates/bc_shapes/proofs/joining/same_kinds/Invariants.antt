use Rattle.std.proofs.Common.{◌≡◌, ◌<◌, ℕ, get_or}
use Rattle.std.specs.Bool.{OnFalse}
use Rattle.bc_shapes.specs.declared.kinds.Kind.TheVariants.{Either}
use Rattle.bc_shapes.proofs.joining.same_kinds.Given as goal

abbrev pub invariant-loop-i : goal.invariant-loop-i
invariant-loop-i l = OnFalse l.differ ((k : ℕ) → k < l.i → get_or l.ks k Either ≡ get_or l.ls k Either)
