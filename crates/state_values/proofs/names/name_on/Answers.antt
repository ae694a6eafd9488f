use Rattle.std.proofs.Common.{List, Option, ap, ℕ}
use Rattle.state_values.proofs.Ending as ending
use Rattle.state_values.proofs.Families.{step_runs, step_acts}
use Rattle.state_values.proofs.Finding as finding
use Rattle.vm_states.specs.bc_machine.Library.{Names}
use Rattle.vm_states.specs.bc_ops.declared.instr.Op.TheVariants as ops
use Rattle.vm_states.specs.prim_names.arena_heap.declared.value.StrNo.{StrNo}
use Rattle.vm_states.specs.prim_names.arena_objects.Iterables.{or_nothing}
use Rattle.vm_states.specs.vm_fetching.Instructions as fetched
use Rattle.vm_states.specs.vm_fetching.declared.instruction.Step.TheVariants as steps
use Rattle.vm_states.specs.vm_fetching.declared.operations.NameOp.TheVariants as name_ops
use Rattle.vm_states.specs.vm_fetching.declared.operations.NameOp.{NameOp}
use Rattle.state_values.proofs.names.name_on.Goals as goal

pub load_name-requires-clause-room : goal.load_name-requires-clause-room
load_name-requires-clause-room g c =
    let h = step_runs (g.C.Constants.text_of c.args.consts.now) (g.C.Constants.items_of c.args.consts.now) (steps.Name c.args.op c.args.name) (steps.Name name_ops.LoadName c.args.name) c.args.end (ap (λ (o : NameOp). steps.Name o c.args.name) c.in-LoadName.is) c.args.arena.now c.args.frames.now c.requires.runs in
    finding.has_room h

pub load_name-requires-clause-names : goal.load_name-requires-clause-names
load_name-requires-clause-names g c =
    let h = step_runs (g.C.Constants.text_of c.args.consts.now) (g.C.Constants.items_of c.args.consts.now) (steps.Name c.args.op c.args.name) (steps.Name name_ops.LoadName c.args.name) c.args.end (ap (λ (o : NameOp). steps.Name o c.args.name) c.in-LoadName.is) c.args.arena.now c.args.frames.now c.requires.runs in
    finding.has_names h

pub load_name-requires-clause-name : goal.load_name-requires-clause-name
load_name-requires-clause-name g c =
    let h = step_runs (g.C.Constants.text_of c.args.consts.now) (g.C.Constants.items_of c.args.consts.now) (steps.Name c.args.op c.args.name) (steps.Name name_ops.LoadName c.args.name) c.args.end (ap (λ (o : NameOp). steps.Name o c.args.name) c.in-LoadName.is) c.args.arena.now c.args.frames.now c.requires.runs in
    finding.text_told h c.args.name h.ready.text

pub load_name-requires-clause-all_told : goal.load_name-requires-clause-all_told
load_name-requires-clause-all_told g c =
    let h = step_runs (g.C.Constants.text_of c.args.consts.now) (g.C.Constants.items_of c.args.consts.now) (steps.Name c.args.op c.args.name) (steps.Name name_ops.LoadName c.args.name) c.args.end (ap (λ (o : NameOp). steps.Name o c.args.name) c.in-LoadName.is) c.args.arena.now c.args.frames.now c.requires.runs in
    finding.all_told h

pub returns-in-LoadName : goal.returns-in-LoadName
returns-in-LoadName g c =
    record {
      acts = step_acts (g.C.Constants.text_of c.args.consts.now) (g.C.Constants.items_of c.args.consts.now) (steps.Name c.args.op c.args.name) (steps.Name name_ops.LoadName c.args.name) c.args.end (ap (λ (o : NameOp). steps.Name o c.args.name) c.in-LoadName.is) c.args.arena.now c.args.arena.now c.args.frames.now c.load_name.new.frames c.load_name.result (ending.puts c.acting_law.ensures.acts (record { instruction = fetched.name name_ops.LoadName c.args.name; end = c.args.end }) (λ p s row r. r.begins tt) 0 (Names ops.LoadName (or_nothing (g.C.Constants.text_of c.args.consts.now c.args.name))) c.args.frames.now c.load_name.new.frames
          c.load_name.ensures.leaves (λ p d tells. ap (λ (t : StrNo → Option (List ℕ)). Names ops.LoadName (or_nothing (t c.args.name))) tells.texts_are) c.load_name.ensures.name 0 c.load_name.ensures.moved);
    }

pub load_name-requires-in-LoadGlobal-clause-room : goal.load_name-requires-in-LoadGlobal-clause-room
load_name-requires-in-LoadGlobal-clause-room g c =
    let h = step_runs (g.C.Constants.text_of c.args.consts.now) (g.C.Constants.items_of c.args.consts.now) (steps.Name c.args.op c.args.name) (steps.Name name_ops.LoadGlobal c.args.name) c.args.end (ap (λ (o : NameOp). steps.Name o c.args.name) c.in-LoadGlobal.is) c.args.arena.now c.args.frames.now c.requires.runs in
    finding.has_room h

pub load_name-requires-in-LoadGlobal-clause-names : goal.load_name-requires-in-LoadGlobal-clause-names
load_name-requires-in-LoadGlobal-clause-names g c =
    let h = step_runs (g.C.Constants.text_of c.args.consts.now) (g.C.Constants.items_of c.args.consts.now) (steps.Name c.args.op c.args.name) (steps.Name name_ops.LoadGlobal c.args.name) c.args.end (ap (λ (o : NameOp). steps.Name o c.args.name) c.in-LoadGlobal.is) c.args.arena.now c.args.frames.now c.requires.runs in
    finding.has_names h

pub load_name-requires-in-LoadGlobal-clause-name : goal.load_name-requires-in-LoadGlobal-clause-name
load_name-requires-in-LoadGlobal-clause-name g c =
    let h = step_runs (g.C.Constants.text_of c.args.consts.now) (g.C.Constants.items_of c.args.consts.now) (steps.Name c.args.op c.args.name) (steps.Name name_ops.LoadGlobal c.args.name) c.args.end (ap (λ (o : NameOp). steps.Name o c.args.name) c.in-LoadGlobal.is) c.args.arena.now c.args.frames.now c.requires.runs in
    finding.text_told h c.args.name h.ready.text

pub load_name-requires-in-LoadGlobal-clause-all_told : goal.load_name-requires-in-LoadGlobal-clause-all_told
load_name-requires-in-LoadGlobal-clause-all_told g c =
    let h = step_runs (g.C.Constants.text_of c.args.consts.now) (g.C.Constants.items_of c.args.consts.now) (steps.Name c.args.op c.args.name) (steps.Name name_ops.LoadGlobal c.args.name) c.args.end (ap (λ (o : NameOp). steps.Name o c.args.name) c.in-LoadGlobal.is) c.args.arena.now c.args.frames.now c.requires.runs in
    finding.all_told h

pub returns-in-LoadGlobal : goal.returns-in-LoadGlobal
returns-in-LoadGlobal g c =
    record {
      acts = step_acts (g.C.Constants.text_of c.args.consts.now) (g.C.Constants.items_of c.args.consts.now) (steps.Name c.args.op c.args.name) (steps.Name name_ops.LoadGlobal c.args.name) c.args.end (ap (λ (o : NameOp). steps.Name o c.args.name) c.in-LoadGlobal.is) c.args.arena.now c.args.arena.now c.args.frames.now c.load_name-in-LoadGlobal.new.frames c.load_name-in-LoadGlobal.result (ending.puts c.acting_law.ensures.acts (record { instruction = fetched.name name_ops.LoadGlobal c.args.name; end = c.args.end }) (λ p s row r. r.begins tt) 0 (Names ops.LoadGlobal (or_nothing (g.C.Constants.text_of c.args.consts.now c.args.name))) c.args.frames.now c.load_name-in-LoadGlobal.new.frames
          c.load_name-in-LoadGlobal.ensures.leaves (λ p d tells. ap (λ (t : StrNo → Option (List ℕ)). Names ops.LoadGlobal (or_nothing (t c.args.name))) tells.texts_are) c.load_name-in-LoadGlobal.ensures.global 0 c.load_name-in-LoadGlobal.ensures.moved);
    }

pub store_name-requires-clause-names : goal.store_name-requires-clause-names
store_name-requires-clause-names g c =
    let h = step_runs (g.C.Constants.text_of c.args.consts.now) (g.C.Constants.items_of c.args.consts.now) (steps.Name c.args.op c.args.name) (steps.Name name_ops.StoreName c.args.name) c.args.end (ap (λ (o : NameOp). steps.Name o c.args.name) c.in-StoreName.is) c.args.arena.now c.args.frames.now c.requires.runs in
    finding.has_names h

pub store_name-requires-clause-name : goal.store_name-requires-clause-name
store_name-requires-clause-name g c =
    let h = step_runs (g.C.Constants.text_of c.args.consts.now) (g.C.Constants.items_of c.args.consts.now) (steps.Name c.args.op c.args.name) (steps.Name name_ops.StoreName c.args.name) c.args.end (ap (λ (o : NameOp). steps.Name o c.args.name) c.in-StoreName.is) c.args.arena.now c.args.frames.now c.requires.runs in
    finding.text_told h c.args.name h.ready.text

pub store_name-requires-clause-value : goal.store_name-requires-clause-value
store_name-requires-clause-value g c =
    let h = step_runs (g.C.Constants.text_of c.args.consts.now) (g.C.Constants.items_of c.args.consts.now) (steps.Name c.args.op c.args.name) (steps.Name name_ops.StoreName c.args.name) c.args.end (ap (λ (o : NameOp). steps.Name o c.args.name) c.in-StoreName.is) c.args.arena.now c.args.frames.now c.requires.runs in
    finding.one h c.tops_law.ensures.one h.ready.finds

pub store_name-requires-clause-all_told : goal.store_name-requires-clause-all_told
store_name-requires-clause-all_told g c =
    let h = step_runs (g.C.Constants.text_of c.args.consts.now) (g.C.Constants.items_of c.args.consts.now) (steps.Name c.args.op c.args.name) (steps.Name name_ops.StoreName c.args.name) c.args.end (ap (λ (o : NameOp). steps.Name o c.args.name) c.in-StoreName.is) c.args.arena.now c.args.frames.now c.requires.runs in
    finding.all_told h

pub returns-in-StoreName : goal.returns-in-StoreName
returns-in-StoreName g c =
    record {
      acts = step_acts (g.C.Constants.text_of c.args.consts.now) (g.C.Constants.items_of c.args.consts.now) (steps.Name c.args.op c.args.name) (steps.Name name_ops.StoreName c.args.name) c.args.end (ap (λ (o : NameOp). steps.Name o c.args.name) c.in-StoreName.is) c.args.arena.now c.store_name.new.arena c.args.frames.now c.store_name.new.frames c.store_name.result (ending.takes c.acting_law.ensures.acts (record { instruction = fetched.name name_ops.StoreName c.args.name; end = c.args.end }) (λ p s row r. r.begins tt) 0 (Names ops.StoreName (or_nothing (g.C.Constants.text_of c.args.consts.now c.args.name))) c.args.frames.now c.store_name.new.frames
          c.store_name.ensures.leaves (λ p d tells. ap (λ (t : StrNo → Option (List ℕ)). Names ops.StoreName (or_nothing (t c.args.name))) tells.texts_are) c.store_name.ensures.name 1 c.store_name.ensures.moved);
    }

pub store_name-requires-in-StoreGlobal-clause-names : goal.store_name-requires-in-StoreGlobal-clause-names
store_name-requires-in-StoreGlobal-clause-names g c =
    let h = step_runs (g.C.Constants.text_of c.args.consts.now) (g.C.Constants.items_of c.args.consts.now) (steps.Name c.args.op c.args.name) (steps.Name name_ops.StoreGlobal c.args.name) c.args.end (ap (λ (o : NameOp). steps.Name o c.args.name) c.in-StoreGlobal.is) c.args.arena.now c.args.frames.now c.requires.runs in
    finding.has_names h

pub store_name-requires-in-StoreGlobal-clause-name : goal.store_name-requires-in-StoreGlobal-clause-name
store_name-requires-in-StoreGlobal-clause-name g c =
    let h = step_runs (g.C.Constants.text_of c.args.consts.now) (g.C.Constants.items_of c.args.consts.now) (steps.Name c.args.op c.args.name) (steps.Name name_ops.StoreGlobal c.args.name) c.args.end (ap (λ (o : NameOp). steps.Name o c.args.name) c.in-StoreGlobal.is) c.args.arena.now c.args.frames.now c.requires.runs in
    finding.text_told h c.args.name h.ready.text

pub store_name-requires-in-StoreGlobal-clause-value : goal.store_name-requires-in-StoreGlobal-clause-value
store_name-requires-in-StoreGlobal-clause-value g c =
    let h = step_runs (g.C.Constants.text_of c.args.consts.now) (g.C.Constants.items_of c.args.consts.now) (steps.Name c.args.op c.args.name) (steps.Name name_ops.StoreGlobal c.args.name) c.args.end (ap (λ (o : NameOp). steps.Name o c.args.name) c.in-StoreGlobal.is) c.args.arena.now c.args.frames.now c.requires.runs in
    finding.one h c.tops_law.ensures.one h.ready.finds

pub store_name-requires-in-StoreGlobal-clause-all_told : goal.store_name-requires-in-StoreGlobal-clause-all_told
store_name-requires-in-StoreGlobal-clause-all_told g c =
    let h = step_runs (g.C.Constants.text_of c.args.consts.now) (g.C.Constants.items_of c.args.consts.now) (steps.Name c.args.op c.args.name) (steps.Name name_ops.StoreGlobal c.args.name) c.args.end (ap (λ (o : NameOp). steps.Name o c.args.name) c.in-StoreGlobal.is) c.args.arena.now c.args.frames.now c.requires.runs in
    finding.all_told h

pub returns-in-StoreGlobal : goal.returns-in-StoreGlobal
returns-in-StoreGlobal g c =
    record {
      acts = step_acts (g.C.Constants.text_of c.args.consts.now) (g.C.Constants.items_of c.args.consts.now) (steps.Name c.args.op c.args.name) (steps.Name name_ops.StoreGlobal c.args.name) c.args.end (ap (λ (o : NameOp). steps.Name o c.args.name) c.in-StoreGlobal.is) c.args.arena.now c.store_name-in-StoreGlobal.new.arena c.args.frames.now c.store_name-in-StoreGlobal.new.frames c.store_name-in-StoreGlobal.result (ending.takes c.acting_law.ensures.acts (record { instruction = fetched.name name_ops.StoreGlobal c.args.name; end = c.args.end }) (λ p s row r. r.begins tt) 0 (Names ops.StoreGlobal (or_nothing (g.C.Constants.text_of c.args.consts.now c.args.name))) c.args.frames.now c.store_name-in-StoreGlobal.new.frames
          c.store_name-in-StoreGlobal.ensures.leaves (λ p d tells. ap (λ (t : StrNo → Option (List ℕ)). Names ops.StoreGlobal (or_nothing (t c.args.name))) tells.texts_are) c.store_name-in-StoreGlobal.ensures.global 1 c.store_name-in-StoreGlobal.ensures.moved);
    }

pub delete_name-requires-clause-names : goal.delete_name-requires-clause-names
delete_name-requires-clause-names g c =
    let h = step_runs (g.C.Constants.text_of c.args.consts.now) (g.C.Constants.items_of c.args.consts.now) (steps.Name c.args.op c.args.name) (steps.Name name_ops.DeleteName c.args.name) c.args.end (ap (λ (o : NameOp). steps.Name o c.args.name) c.in-DeleteName.is) c.args.arena.now c.args.frames.now c.requires.runs in
    finding.has_names h

pub delete_name-requires-clause-name : goal.delete_name-requires-clause-name
delete_name-requires-clause-name g c =
    let h = step_runs (g.C.Constants.text_of c.args.consts.now) (g.C.Constants.items_of c.args.consts.now) (steps.Name c.args.op c.args.name) (steps.Name name_ops.DeleteName c.args.name) c.args.end (ap (λ (o : NameOp). steps.Name o c.args.name) c.in-DeleteName.is) c.args.arena.now c.args.frames.now c.requires.runs in
    finding.text_told h c.args.name h.ready.text

pub delete_name-requires-clause-all_told : goal.delete_name-requires-clause-all_told
delete_name-requires-clause-all_told g c =
    let h = step_runs (g.C.Constants.text_of c.args.consts.now) (g.C.Constants.items_of c.args.consts.now) (steps.Name c.args.op c.args.name) (steps.Name name_ops.DeleteName c.args.name) c.args.end (ap (λ (o : NameOp). steps.Name o c.args.name) c.in-DeleteName.is) c.args.arena.now c.args.frames.now c.requires.runs in
    finding.all_told h

pub returns-in-DeleteName : goal.returns-in-DeleteName
returns-in-DeleteName g c =
    record {
      acts = step_acts (g.C.Constants.text_of c.args.consts.now) (g.C.Constants.items_of c.args.consts.now) (steps.Name c.args.op c.args.name) (steps.Name name_ops.DeleteName c.args.name) c.args.end (ap (λ (o : NameOp). steps.Name o c.args.name) c.in-DeleteName.is) c.args.arena.now c.delete_name.new.arena c.args.frames.now c.delete_name.new.frames c.delete_name.result (ending.takes c.acting_law.ensures.acts (record { instruction = fetched.name name_ops.DeleteName c.args.name; end = c.args.end }) (λ p s row r. r.begins tt) 0 (Names ops.DeleteName (or_nothing (g.C.Constants.text_of c.args.consts.now c.args.name))) c.args.frames.now c.delete_name.new.frames
          c.delete_name.ensures.leaves (λ p d tells. ap (λ (t : StrNo → Option (List ℕ)). Names ops.DeleteName (or_nothing (t c.args.name))) tells.texts_are) c.delete_name.ensures.name 0 c.delete_name.ensures.moved);
    }

pub delete_name-requires-in-DeleteGlobal-clause-names : goal.delete_name-requires-in-DeleteGlobal-clause-names
delete_name-requires-in-DeleteGlobal-clause-names g c =
    let h = step_runs (g.C.Constants.text_of c.args.consts.now) (g.C.Constants.items_of c.args.consts.now) (steps.Name c.args.op c.args.name) (steps.Name name_ops.DeleteGlobal c.args.name) c.args.end (ap (λ (o : NameOp). steps.Name o c.args.name) c.in-DeleteGlobal.is) c.args.arena.now c.args.frames.now c.requires.runs in
    finding.has_names h

pub delete_name-requires-in-DeleteGlobal-clause-name : goal.delete_name-requires-in-DeleteGlobal-clause-name
delete_name-requires-in-DeleteGlobal-clause-name g c =
    let h = step_runs (g.C.Constants.text_of c.args.consts.now) (g.C.Constants.items_of c.args.consts.now) (steps.Name c.args.op c.args.name) (steps.Name name_ops.DeleteGlobal c.args.name) c.args.end (ap (λ (o : NameOp). steps.Name o c.args.name) c.in-DeleteGlobal.is) c.args.arena.now c.args.frames.now c.requires.runs in
    finding.text_told h c.args.name h.ready.text

pub delete_name-requires-in-DeleteGlobal-clause-all_told : goal.delete_name-requires-in-DeleteGlobal-clause-all_told
delete_name-requires-in-DeleteGlobal-clause-all_told g c =
    let h = step_runs (g.C.Constants.text_of c.args.consts.now) (g.C.Constants.items_of c.args.consts.now) (steps.Name c.args.op c.args.name) (steps.Name name_ops.DeleteGlobal c.args.name) c.args.end (ap (λ (o : NameOp). steps.Name o c.args.name) c.in-DeleteGlobal.is) c.args.arena.now c.args.frames.now c.requires.runs in
    finding.all_told h

pub returns-in-DeleteGlobal : goal.returns-in-DeleteGlobal
returns-in-DeleteGlobal g c =
    record {
      acts = step_acts (g.C.Constants.text_of c.args.consts.now) (g.C.Constants.items_of c.args.consts.now) (steps.Name c.args.op c.args.name) (steps.Name name_ops.DeleteGlobal c.args.name) c.args.end (ap (λ (o : NameOp). steps.Name o c.args.name) c.in-DeleteGlobal.is) c.args.arena.now c.delete_name-in-DeleteGlobal.new.arena c.args.frames.now c.delete_name-in-DeleteGlobal.new.frames c.delete_name-in-DeleteGlobal.result (ending.takes c.acting_law.ensures.acts (record { instruction = fetched.name name_ops.DeleteGlobal c.args.name; end = c.args.end }) (λ p s row r. r.begins tt) 0 (Names ops.DeleteGlobal (or_nothing (g.C.Constants.text_of c.args.consts.now c.args.name))) c.args.frames.now c.delete_name-in-DeleteGlobal.new.frames
          c.delete_name-in-DeleteGlobal.ensures.leaves (λ p d tells. ap (λ (t : StrNo → Option (List ℕ)). Names ops.DeleteGlobal (or_nothing (t c.args.name))) tells.texts_are) c.delete_name-in-DeleteGlobal.ensures.global 0 c.delete_name-in-DeleteGlobal.ensures.moved);
    }
