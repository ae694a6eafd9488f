use Rattle.std.proofs.Common.{◌≡◌, map, drop, Ok}
use Rattle.prim_outputs.specs.py_effects.Calling.{with_keys}
use Rattle.prim_methods.specs.prim_walks.Plain.{plain_heap, plain_pair}
use Rattle.prim_calls.specs.Binding.{AreKnown, name_text, plain_slots}
use Rattle.prim_calls.proofs.keywords.put_keywords.Given as goal

-- the slots are known so far, and what is left goes on from there
abbrev pub invariant-loop-pair : goal.invariant-loop-pair
invariant-loop-pair g l =
    let texts = g.C.Constants.text_of l.consts in
    let tuples = g.C.Constants.items_of l.consts in
    let put = with_keys (plain_heap texts tuples l.arena) (map (name_text texts) l.params) in
    AreKnown texts tuples l.arena.objects l.slots
    × (put (Ok (plain_slots texts tuples l.slots)) (map (plain_pair texts tuples) (drop l.pair-index l.keys)) ≡ put (Ok (plain_slots texts tuples l.initial.slots)) (map (plain_pair texts tuples) l.keys))
