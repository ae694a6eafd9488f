use Rattle.std.proofs.Common.{List, Ok, sym, ap, subst}
use Rattle.frame_moves.specs.vm_frames.Calls.{Call, Calls}
use Rattle.frame_moves.specs.Outcomes.{world_of, outcome_of}
use Rattle.frame_calls.specs.Coming.{Comes}
use Rattle.frame_calls.specs.Layouts.{tables_of}
use Rattle.frame_calls.proofs.Skips.{skips}
use Rattle.frame_calls.proofs.Slots.{size_there}
use Rattle.frame_calls.proofs.entering.skip_function.Goals as goal

pub put_over-requires-clause-there : goal.put_over-requires-clause-there
put_over-requires-clause-there c = size_there c.args.size c.args.frames.now.calls c.requires.some c.requires.there

pub returns-clause-steps : goal.returns-clause-steps
returns-clause-steps c texts tuples layout library item heap args keys f invokes none next w =
    let t = tables_of texts tuples layout in
    let old = c.args.frames.now.calls in
    subst (λ (cs : List Call). Comes t library item 0 (world_of t w heap) old (λ place. outcome_of t place w heap old cs (Ok tt))) (sym (ap (λ (z : Calls). z.calls) c.put_over.ensures))
    (skips t library item c.args.size c.args.end heap args keys f old invokes none next w)
