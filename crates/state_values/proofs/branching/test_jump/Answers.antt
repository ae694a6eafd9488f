use Rattle.std.proofs.Common.{Ok}
use Rattle.state_values.proofs.Finding as finding
use Rattle.state_values.proofs.Testing as testing
use Rattle.vm_states.specs.bc_labels.Positions.{position_in}
use Rattle.vm_states.specs.vm_frames.Views.{starts_of, frame_of}
use Rattle.vm_states.specs.frame_moves.Shown.{view_of}
use Rattle.state_values.proofs.branching.test_jump.Goals as goal

pub top_truth-truth-requires : goal.top_truth-truth-requires
top_truth-truth-requires g c =
    let h = c.requires.runs in
    let p = h.program in
    finding.one h c.tops_law.ensures.one
    (testing.finds_value (p.plans (p.tables.module_name h.ready.first.module_number) h.ready.first.code) p.library h.ready.code (frame_of (view_of p.tables) h.ready.first) c.args.op
    (position_in (starts_of (view_of p.tables) h.ready.first) c.args.target) h.ready.finds)

pub jump_by-requires : goal.jump_by-requires
jump_by-requires g c =
    let h = c.requires.runs in
    let p = h.program in
    let one = finding.one h c.tops_law.ensures.one
    (testing.finds_value (p.plans (p.tables.module_name h.ready.first.module_number) h.ready.first.code) p.library h.ready.code (frame_of (view_of p.tables) h.ready.first) c.args.op
    (position_in (starts_of (view_of p.tables) h.ready.first) c.args.target) h.ready.finds) in
    record { there = finding.slot_there h 0 one.0 one.1 }

pub returns : goal.returns
returns g c =
    let texts = g.C.Constants.text_of c.args.consts.now in
    let tuples = g.C.Constants.items_of c.args.consts.now in
    let heap = c.args.arena.now in
    let old = c.args.frames.now in
    let new = c.jump_by.new.frames in
    let truth = c.top_truth-truth.result in
    let f = testing.test_at c.args.op c.args.target c.args.end in
    let l = testing.lands texts tuples heap.objects c.args.target c.args.end old new c.args.op truth c.jump_by.ensures.moved in
    record {
      acts = c.acting_law.ensures.acts texts tuples f 0 l.offset heap heap old new (Ok tt) l.starts
          (testing.does_test texts tuples heap c.args.op truth c.args.target c.args.end old new c.top_truth-truth.ensures c.jump_by.ensures.steps)
          l.onward (finding.leaves_same c.requires.runs);
    }
