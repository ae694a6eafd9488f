use Rattle.std.proofs.Common.{sym, subst, ap, ◌∙◌}
use Rattle.mpy_base.specs.World.{AModule, IsA}
use Rattle.mpy_base.specs.Val.{PlainWorld}
use Rattle.bc_machine.specs.py_effects.Ends.{new_world}
use Rattle.bc_machine.specs.Machine.{steps, start, run_of}
use Rattle.snap_loading.proofs.Suspending.{Runs, machine_runs, stays_first, room_kept, begins_first, world_is}
use Rattle.snap_loading.proofs.suspended.first_law.Goals as goal

pub returns-clause-first : goal.returns-clause-first
returns-clause-first c shelf main cells bytes ports n vm p is on to program =
    let r = to.stands p program in
    let first = start p.library main (new_world cells bytes ports) in
    let runs : Runs (steps p.library n first) = subst Runs (sym r.1) (machine_runs p vm r.0 on (is.runs on p program).state.running.fits) in
    let there = stays_first p.library main cells bytes ports n (λ k m le. c.sound_law.ensures.runs p.library main cells bytes ports k m le) runs in
    let world = ap (λ s. (run_of s).world) r.1 ∙ world_is p vm r.0 on in
    record { first = begins_first p vm r.0 (subst (λ (w : PlainWorld). IsA w.heap.objects AModule 0) world there) }

pub returns-clause-cells : goal.returns-clause-cells
returns-clause-cells c shelf main cells bytes ports n vm p is on to program =
    let r = to.stands p program in
    let first = start p.library main (new_world cells bytes ports) in
    let runs : Runs (steps p.library n first) = subst Runs (sym r.1) (machine_runs p vm r.0 on (is.runs on p program).state.running.fits) in
    let kept = room_kept p.library main cells bytes ports n (λ k m le. c.sound_law.ensures.runs p.library main cells bytes ports k m le) runs in
    ap (λ (w : PlainWorld). w.heap.cell_size) (sym (ap (λ s. (run_of s).world) r.1 ∙ world_is p vm r.0 on)) ∙ kept.0

pub returns-clause-bytes : goal.returns-clause-bytes
returns-clause-bytes c shelf main cells bytes ports n vm p is on to program =
    let r = to.stands p program in
    let first = start p.library main (new_world cells bytes ports) in
    let runs : Runs (steps p.library n first) = subst Runs (sym r.1) (machine_runs p vm r.0 on (is.runs on p program).state.running.fits) in
    let kept = room_kept p.library main cells bytes ports n (λ k m le. c.sound_law.ensures.runs p.library main cells bytes ports k m le) runs in
    ap (λ (w : PlainWorld). w.heap.byte_size) (sym (ap (λ s. (run_of s).world) r.1 ∙ world_is p vm r.0 on)) ∙ kept.1
