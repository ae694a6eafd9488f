use Rattle.std.proofs.Common.{◌≡◌, take, length}
use Rattle.prim_calls.specs.Slots.{first_values}
use Rattle.prim_calls.proofs.slots.put_arguments.Given as goal

abbrev pub invariant-loop-at : goal.invariant-loop-at
invariant-loop-at l = take l.at l.slots ≡ take l.at (first_values (length l.initial.slots) l.args)
