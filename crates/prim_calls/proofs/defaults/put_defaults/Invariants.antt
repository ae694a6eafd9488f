use Rattle.std.proofs.Common.{◌≡◌, ◌-◌, drop}
use Rattle.prim_types.specs.py_values.Shown.{shown}
use Rattle.prim_outputs.specs.py_effects.Calling.{default_items, last_slots}
use Rattle.prim_methods.specs.prim_walks.Plain.{plain, plain_heap}
use Rattle.prim_calls.specs.Binding.{AreKnown, plain_slots}
use Rattle.prim_calls.proofs.DefaultSteps.{halfway}
use Rattle.prim_calls.proofs.defaults.put_defaults.Given as goal

-- the slots are known, and what is left leads to the slots with all defaults
abbrev pub invariant-loop-at : goal.invariant-loop-at
invariant-loop-at g l =
    let texts = g.C.Constants.text_of l.consts in
    let tuples = g.C.Constants.items_of l.consts in
    let items = default_items (shown (plain_heap texts tuples l.arena) (plain texts tuples l.defaults)) in
    AreKnown texts tuples l.arena.objects l.slots
    × (halfway l.at (plain_slots texts tuples l.slots) (drop (l.at - l.before) items) ≡ last_slots l.before (plain_slots texts tuples l.initial.slots) items)
