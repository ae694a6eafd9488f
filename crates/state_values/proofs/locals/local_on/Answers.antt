use Rattle.std.proofs.Common.{ap, refl}
use Rattle.state_values.proofs.Ending as ending
use Rattle.state_values.proofs.Families.{step_runs, step_acts}
use Rattle.state_values.proofs.Finding as finding
use Rattle.vm_states.specs.bc_machine.Library.{Plain}
use Rattle.vm_states.specs.bc_ops.declared.instr.Instr.TheVariants as instrs
use Rattle.vm_states.specs.bc_ops.declared.instr.Op.TheVariants as ops
use Rattle.vm_states.specs.vm_fetching.Instructions as fetched
use Rattle.vm_states.specs.vm_fetching.declared.instruction.Step.TheVariants as steps
use Rattle.vm_states.specs.vm_fetching.declared.operations.LocalOp.TheVariants as local_ops
use Rattle.vm_states.specs.vm_fetching.declared.operations.LocalOp.{LocalOp}
use Rattle.state_values.proofs.locals.local_on.Goals as goal

pub load_fast-requires-clause-room : goal.load_fast-requires-clause-room
load_fast-requires-clause-room g c =
    let h = step_runs (g.C.Constants.text_of c.args.consts.now) (g.C.Constants.items_of c.args.consts.now) (steps.Local c.args.op c.args.n) (steps.Local local_ops.LoadFast c.args.n) c.args.end (ap (λ (o : LocalOp). steps.Local o c.args.n) c.in-LoadFast.is) c.args.arena.now c.args.frames.now c.requires.runs in
    finding.has_room h

pub load_fast-requires-clause-local : goal.load_fast-requires-clause-local
load_fast-requires-clause-local g c =
    let h = step_runs (g.C.Constants.text_of c.args.consts.now) (g.C.Constants.items_of c.args.consts.now) (steps.Local c.args.op c.args.n) (steps.Local local_ops.LoadFast c.args.n) c.args.end (ap (λ (o : LocalOp). steps.Local o c.args.n) c.in-LoadFast.is) c.args.arena.now c.args.frames.now c.requires.runs in
    finding.has_local h c.args.n h.ready.local

pub load_fast-requires-clause-all_told : goal.load_fast-requires-clause-all_told
load_fast-requires-clause-all_told g c =
    let h = step_runs (g.C.Constants.text_of c.args.consts.now) (g.C.Constants.items_of c.args.consts.now) (steps.Local c.args.op c.args.n) (steps.Local local_ops.LoadFast c.args.n) c.args.end (ap (λ (o : LocalOp). steps.Local o c.args.n) c.in-LoadFast.is) c.args.arena.now c.args.frames.now c.requires.runs in
    finding.all_told h

pub returns-in-LoadFast : goal.returns-in-LoadFast
returns-in-LoadFast g c =
    record {
      acts = step_acts (g.C.Constants.text_of c.args.consts.now) (g.C.Constants.items_of c.args.consts.now) (steps.Local c.args.op c.args.n) (steps.Local local_ops.LoadFast c.args.n) c.args.end (ap (λ (o : LocalOp). steps.Local o c.args.n) c.in-LoadFast.is) c.args.arena.now c.args.arena.now c.args.frames.now c.load_fast.new.frames c.load_fast.result (ending.puts c.acting_law.ensures.acts (record { instruction = fetched.local local_ops.LoadFast c.args.n; end = c.args.end }) (λ p s row r. r.begins tt) 0 (Plain (instrs.Num ops.LoadFast c.args.n)) c.args.frames.now c.load_fast.new.frames
          c.load_fast.ensures.leaves (λ p d tells. refl) c.load_fast.ensures.short 0 c.load_fast.ensures.moved);
    }

pub load_fast-requires-in-LoadFastN-clause-room : goal.load_fast-requires-in-LoadFastN-clause-room
load_fast-requires-in-LoadFastN-clause-room g c =
    let h = step_runs (g.C.Constants.text_of c.args.consts.now) (g.C.Constants.items_of c.args.consts.now) (steps.Local c.args.op c.args.n) (steps.Local local_ops.LoadFastN c.args.n) c.args.end (ap (λ (o : LocalOp). steps.Local o c.args.n) c.in-LoadFastN.is) c.args.arena.now c.args.frames.now c.requires.runs in
    finding.has_room h

pub load_fast-requires-in-LoadFastN-clause-local : goal.load_fast-requires-in-LoadFastN-clause-local
load_fast-requires-in-LoadFastN-clause-local g c =
    let h = step_runs (g.C.Constants.text_of c.args.consts.now) (g.C.Constants.items_of c.args.consts.now) (steps.Local c.args.op c.args.n) (steps.Local local_ops.LoadFastN c.args.n) c.args.end (ap (λ (o : LocalOp). steps.Local o c.args.n) c.in-LoadFastN.is) c.args.arena.now c.args.frames.now c.requires.runs in
    finding.has_local h c.args.n h.ready.local

pub load_fast-requires-in-LoadFastN-clause-all_told : goal.load_fast-requires-in-LoadFastN-clause-all_told
load_fast-requires-in-LoadFastN-clause-all_told g c =
    let h = step_runs (g.C.Constants.text_of c.args.consts.now) (g.C.Constants.items_of c.args.consts.now) (steps.Local c.args.op c.args.n) (steps.Local local_ops.LoadFastN c.args.n) c.args.end (ap (λ (o : LocalOp). steps.Local o c.args.n) c.in-LoadFastN.is) c.args.arena.now c.args.frames.now c.requires.runs in
    finding.all_told h

pub returns-in-LoadFastN : goal.returns-in-LoadFastN
returns-in-LoadFastN g c =
    record {
      acts = step_acts (g.C.Constants.text_of c.args.consts.now) (g.C.Constants.items_of c.args.consts.now) (steps.Local c.args.op c.args.n) (steps.Local local_ops.LoadFastN c.args.n) c.args.end (ap (λ (o : LocalOp). steps.Local o c.args.n) c.in-LoadFastN.is) c.args.arena.now c.args.arena.now c.args.frames.now c.load_fast-in-LoadFastN.new.frames c.load_fast-in-LoadFastN.result (ending.puts c.acting_law.ensures.acts (record { instruction = fetched.local local_ops.LoadFastN c.args.n; end = c.args.end }) (λ p s row r. r.begins tt) 0 (Plain (instrs.Num ops.LoadFastN c.args.n)) c.args.frames.now c.load_fast-in-LoadFastN.new.frames
          c.load_fast-in-LoadFastN.ensures.leaves (λ p d tells. refl) c.load_fast-in-LoadFastN.ensures.long 0 c.load_fast-in-LoadFastN.ensures.moved);
    }

pub returns-in-StoreFast : goal.returns-in-StoreFast
returns-in-StoreFast g c =
    record {
      acts = step_acts (g.C.Constants.text_of c.args.consts.now) (g.C.Constants.items_of c.args.consts.now) (steps.Local c.args.op c.args.n) (steps.Local local_ops.StoreFast c.args.n) c.args.end (ap (λ (o : LocalOp). steps.Local o c.args.n) c.in-StoreFast.is) c.args.arena.now c.args.arena.now c.args.frames.now c.store_fast.new.frames c.store_fast.result c.store_fast.ensures.acts;
    }

pub returns-in-StoreFastN : goal.returns-in-StoreFastN
returns-in-StoreFastN g c =
    record {
      acts = step_acts (g.C.Constants.text_of c.args.consts.now) (g.C.Constants.items_of c.args.consts.now) (steps.Local c.args.op c.args.n) (steps.Local local_ops.StoreFastN c.args.n) c.args.end (ap (λ (o : LocalOp). steps.Local o c.args.n) c.in-StoreFastN.is) c.args.arena.now c.args.arena.now c.args.frames.now c.store_fast_n.new.frames c.store_fast_n.result c.store_fast_n.ensures.acts;
    }

pub delete_fast-requires-clause-local : goal.delete_fast-requires-clause-local
delete_fast-requires-clause-local g c =
    let h = step_runs (g.C.Constants.text_of c.args.consts.now) (g.C.Constants.items_of c.args.consts.now) (steps.Local c.args.op c.args.n) (steps.Local local_ops.DeleteFast c.args.n) c.args.end (ap (λ (o : LocalOp). steps.Local o c.args.n) c.in-DeleteFast.is) c.args.arena.now c.args.frames.now c.requires.runs in
    finding.has_local h c.args.n h.ready.local

pub delete_fast-requires-clause-all_told : goal.delete_fast-requires-clause-all_told
delete_fast-requires-clause-all_told g c =
    let h = step_runs (g.C.Constants.text_of c.args.consts.now) (g.C.Constants.items_of c.args.consts.now) (steps.Local c.args.op c.args.n) (steps.Local local_ops.DeleteFast c.args.n) c.args.end (ap (λ (o : LocalOp). steps.Local o c.args.n) c.in-DeleteFast.is) c.args.arena.now c.args.frames.now c.requires.runs in
    finding.all_told h

pub returns-in-DeleteFast : goal.returns-in-DeleteFast
returns-in-DeleteFast g c =
    record {
      acts = step_acts (g.C.Constants.text_of c.args.consts.now) (g.C.Constants.items_of c.args.consts.now) (steps.Local c.args.op c.args.n) (steps.Local local_ops.DeleteFast c.args.n) c.args.end (ap (λ (o : LocalOp). steps.Local o c.args.n) c.in-DeleteFast.is) c.args.arena.now c.args.arena.now c.args.frames.now c.delete_fast.new.frames c.delete_fast.result (ending.empties c.acting_law.ensures.acts (record { instruction = fetched.local local_ops.DeleteFast c.args.n; end = c.args.end }) (λ p s row r. r.begins tt) 0 (Plain (instrs.Num ops.DeleteFast c.args.n)) c.args.frames.now c.delete_fast.new.frames
          c.delete_fast.ensures.leaves (λ p d tells. refl) c.delete_fast.ensures.steps c.args.n c.delete_fast.ensures.moved);
    }
