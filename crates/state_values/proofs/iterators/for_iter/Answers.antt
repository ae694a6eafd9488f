use Rattle.frame_moves.specs.py_effects.py_primitives.Iterables.{length_of}
use Rattle.vm_states.specs.prim_names.prim_walks.Plain.{plain, plain_heap}
use Rattle.state_values.proofs.Finding as finding
use Rattle.state_values.proofs.Iterating as iterating
use Rattle.state_values.proofs.iterators.for_iter.Goals as goal

pub for_iter-requires-clause-iterator : goal.for_iter-requires-clause-iterator
for_iter-requires-clause-iterator g c = iterating.has_iterator c.requires.runs c.tops_law.ensures.iterator c.requires.runs.ready.finds.0

pub for_iter-requires-clause-slots : goal.for_iter-requires-clause-slots
for_iter-requires-clause-slots g c = iterating.four_slots c.requires.runs c.tops_law.ensures.iterator c.requires.runs.ready.finds.0

pub for_iter-requires-clause-room : goal.for_iter-requires-clause-room
for_iter-requires-clause-room g c = finding.has_room c.requires.runs

pub for_iter-requires-clause-all_told : goal.for_iter-requires-clause-all_told
for_iter-requires-clause-all_told g c = finding.all_told c.requires.runs

pub returns : goal.returns
returns g c =
    let texts = g.C.Constants.text_of c.args.consts.now in
    let tuples = g.C.Constants.items_of c.args.consts.now in
    let it = iterating.has_iterator c.requires.runs c.tops_law.ensures.iterator c.requires.runs.ready.finds.0 in
    let e = c.for_iter.ensures in
    record {
      acts = iterating.iterates c.acting_law.ensures.acts c.args.target c.args.end c.args.frames.now c.for_iter.new.frames e.leaves e.steps it.0 it.1
          (length_of (plain_heap texts tuples c.args.arena.now) (plain texts tuples it.0)) it.3 (e.item it.0 it.1 it.2) (e.ended it.0 it.1 it.2);
    }
