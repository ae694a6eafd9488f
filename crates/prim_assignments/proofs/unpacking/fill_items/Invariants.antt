use Rattle.std.proofs.Common.{◌≡◌, take}
use Rattle.std.specs.List.{All}
use Rattle.prim_operators.specs.arena_objects.Iterables.{items_in}
use Rattle.prim_operators.specs.prim_faults.Faults.{IsKnown}
use Rattle.prim_operators.proofs.TextFills.{partly}
use Rattle.prim_assignments.proofs.unpacking.fill_items.Given as goal

abbrev pub invariant-loop-at : goal.invariant-loop-at
invariant-loop-at g l =
    let texts = g.C.Constants.text_of l.consts in
    let tuples = g.C.Constants.items_of l.consts in
    let items = items_in tuples l.arena l.over in
    (l.slots ≡ partly items l.initial.slots l.at) × All (IsKnown texts tuples l.arena.objects) (take l.at items)
