use Rattle.std.proofs.Common.{◌≡◌, length}
use Rattle.prim_operators.specs.arena_objects.Iterables.{texts_from}
use Rattle.prim_operators.proofs.TextFills.{partly}
use Rattle.prim_assignments.proofs.unpacking.fill_letters.Given as goal

abbrev pub invariant-loop-at : goal.invariant-loop-at
invariant-loop-at l = l.slots ≡ partly (texts_from l.first (length l.initial.slots)) l.initial.slots l.at
