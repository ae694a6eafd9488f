use Rattle.std.proofs.Common.{Option, Some}
use Rattle.std.specs.Prelude.{IfSome}
use Rattle.std.proofs.lemmas.List.Elements.{All-set}
use Rattle.prim_methods.specs.arena_heap.declared.value.Value.{Value}
use Rattle.prim_methods.specs.arena_objects.Iterables.{spelled}
use Rattle.prim_methods.specs.prim_faults.Faults.{IsKnown}
use Rattle.prim_calls.proofs.KeywordSlots.{filled_empty}
use Rattle.prim_calls.proofs.keywords.fill_slot.Goals as goal

pub returns-in-None-clause-filled : goal.returns-in-None-clause-filled
returns-in-None-clause-filled g c =
    let texts = g.C.Constants.text_of c.args._consts.now in
    let tuples = g.C.Constants.items_of c.args._consts.now in
    filled_empty texts tuples c.args.slots.now c.args.at (spelled texts c.args.arena.now c.args.name) c.args.v c.in-None.ensures

pub returns-in-None-clause-known : goal.returns-in-None-clause-known
returns-in-None-clause-known g c =
    let texts = g.C.Constants.text_of c.args._consts.now in
    let tuples = g.C.Constants.items_of c.args._consts.now in
    All-set (λ (slot : Option Value). IfSome slot (IsKnown texts tuples c.args.arena.now.objects)) c.args.slots.now c.args.at (Some c.args.v) c.requires.value c.requires.known_slots
