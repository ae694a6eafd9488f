use Rattle.std.proofs.Common.{Ok, Some, slice_get, ◌≡◌, ◌∙◌, ap, subst, arith}
use Rattle.state_values.specs.bc_labels.Positions.{position_in}
use Rattle.state_values.specs.vm_frames.declared.slot.Slot.{Slot}
use Rattle.state_values.specs.vm_frames.declared.slot.Slot.TheVariants as slots
use Rattle.state_values.specs.vm_frames.Calls.{OfRunning}
use Rattle.state_values.specs.vm_frames.Views.{starts_of, frame_of}
use Rattle.state_values.specs.frame_moves.Shown.{view_of}
use Rattle.vm_at_once.proofs.Finding as finding
use Rattle.vm_at_once.proofs.Testing as testing
use Rattle.vm_at_once.proofs.Truths.{tests_bool}
use Rattle.vm_at_once.proofs.jumps.test_at_once.Goals as goal

pub slot-requires : goal.slot-requires
slot-requires g c =
    let h = c.requires.runs in
    let p = h.program in
    let one = finding.one h c.tops_law.ensures.one
    (testing.finds_value (p.plans (p.tables.module_name h.ready.first.module_number) h.ready.first.code) p.library h.ready.code (frame_of (view_of p.tables) h.ready.first) c.args.op
    (position_in (starts_of (view_of p.tables) h.ready.first) c.args.target) h.ready.finds) in
    finding.slot_there h 0 one.0 one.1

pub jump_by-requires : goal.jump_by-requires
jump_by-requires g c =
    let h = c.requires.runs in
    let p = h.program in
    let one = finding.one h c.tops_law.ensures.one
    (testing.finds_value (p.plans (p.tables.module_name h.ready.first.module_number) h.ready.first.code) p.library h.ready.code (frame_of (view_of p.tables) h.ready.first) c.args.op
    (position_in (starts_of (view_of p.tables) h.ready.first) c.args.target) h.ready.finds) in
    record { there = finding.slot_there h 0 one.0 one.1 }

pub returns-in-Bool : goal.returns-in-Bool
returns-in-Bool g c =
    let texts = g.C.Constants.text_of c.args._consts.now in
    let tuples = g.C.Constants.items_of c.args._consts.now in
    let heap = c.args._arena.now in
    let old = c.args.frames.now in
    let new = c.jump_by.new.frames in
    let truth = c.in-Bool.truth in
    let top = subst (λ (s : Slot). OfRunning (λ d. slice_get d.slots 0 ≡ Some s) old.calls) (c.in-Value.is ∙ ap slots.Value c.in-Bool.is) c.slot.ensures in
    let f = testing.test_at c.args.op c.args.target c.args.end in
    let l = testing.lands texts tuples heap.objects c.args.target c.args.end old new c.args.op truth c.jump_by.ensures.moved in (
      c.acting_law.ensures.acts texts tuples f 0 l.offset heap heap old new (Ok tt) l.starts
          (testing.does_test texts tuples heap c.args.op truth c.args.target c.args.end old new (tests_bool texts tuples heap truth old.calls top) c.jump_by.ensures.steps)
          l.onward (finding.leaves_same c.requires.runs),
      omega arith,
    )
