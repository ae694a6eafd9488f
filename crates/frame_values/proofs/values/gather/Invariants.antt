use Rattle.std.proofs.Common.{length}
use Rattle.frame_values.proofs.Gathering.{Gathered}
use Rattle.frame_values.proofs.values.gather.Given as goal

abbrev pub invariant-loop-at : goal.invariant-loop-at
invariant-loop-at g l =
    let texts = g.C.Constants.text_of l.consts in
    let tuples = g.C.Constants.items_of l.consts in
    Gathered texts tuples l.arena.objects l.frames.calls (length l.initial.items) l.items l.at
