use Rattle.std.proofs.Common.{◌≡◌, ◌<◌, ℕ, Some}
use Rattle.std.specs.Prelude.{slice_get}
use Rattle.snap_grammar.specs.declared.parts.ObjectPart.{ObjectPart}
use Rattle.snap_states.specs.States.{IsFineObject}
use Rattle.snap_states.proofs.objects.are_fine_objects.Given as goal

abbrev pub invariant-loop-number : goal.invariant-loop-number
invariant-loop-number l = (n : ℕ) (o : ObjectPart) → n < l.number → slice_get l.known.snapshot.now.objects n ≡ Some o → IsFineObject l.known.library.now l.known.snapshot.now n o
