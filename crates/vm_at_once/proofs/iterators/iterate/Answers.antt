use Rattle.std.proofs.Common.{arith, length, ◌<◌}
use Rattle.state_values.specs.vm_frames.Calls.{Call}
use Rattle.state_values.proofs.frame_moves_lemmas.Stepping.{weaker}
use Rattle.vm_at_once.proofs.Finding as finding
use Rattle.vm_at_once.proofs.Iterating as iterating
use Rattle.vm_at_once.proofs.iterators.iterate.Goals as goal

pub iterator_on_top-requires : goal.iterator_on_top-requires
iterator_on_top-requires g c =
    weaker iterating.Four (λ (d : Call). 0 < length d.slots) c.args.frames.now.calls (λ d h. omega (arith, h)) (iterating.four_slots c.requires.runs c.tops_law.ensures.iterator c.requires.runs.ready.finds.0)

pub next_from-requires-clause-leads : goal.next_from-requires-clause-leads
next_from-requires-clause-leads g c = (iterating.over_known c.requires.runs c.in-Some.over c.in-Some.at c.in-Some.ensures.0 c.in-Some.ensures.1).leads

pub next_from-requires-clause-told : goal.next_from-requires-clause-told
next_from-requires-clause-told g c = (iterating.over_known c.requires.runs c.in-Some.over c.in-Some.at c.in-Some.ensures.0 c.in-Some.ensures.1).told

pub next_from-requires-clause-all_told : goal.next_from-requires-clause-all_told
next_from-requires-clause-all_told g c = finding.all_told c.requires.runs

pub go_on-requires-clause-there : goal.go_on-requires-clause-there
go_on-requires-clause-there g c = iterating.four_slots c.requires.runs c.tops_law.ensures.iterator c.requires.runs.ready.finds.0

pub go_on-requires-clause-room : goal.go_on-requires-clause-room
go_on-requires-clause-room g c = finding.has_room c.requires.runs

pub returns-in-Some-next_from : goal.returns-in-Some-next_from
returns-in-Some-next_from g c =
    let texts = g.C.Constants.text_of c.args.consts.now in
    let tuples = g.C.Constants.items_of c.args.consts.now in
    let over = c.in-Some.over in
    let at = c.in-Some.at in
    let there = c.in-Some.ensures in
    let next = c.in-Some-next_from.ensures in (
      iterating.acts texts tuples c.args.arena.now c.args.target c.args.end c.args.frames.now c.go_on.new.frames over at there.0 c.in-Some-next_from.next c.in-Some-next_from.v next.place
          (iterating.over_known c.requires.runs over at there.0 there.1) next.within next.item
          (iterating.four_slots c.requires.runs c.tops_law.ensures.iterator c.requires.runs.ready.finds.0) there.1 c.go_on.ensures c.acting_law.ensures.acts (finding.leaves_same c.requires.runs),
      omega arith,
    )
