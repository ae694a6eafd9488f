use Rattle.std.proofs.Common.{List, Option, ap, ℕ}
use Rattle.state_values.proofs.Ending as ending
use Rattle.state_values.proofs.Families.{step_runs, step_acts}
use Rattle.state_values.proofs.Finding as finding
use Rattle.vm_states.specs.bc_machine.Library.{Names}
use Rattle.vm_states.specs.bc_ops.declared.instr.Op.TheVariants as ops
use Rattle.vm_states.specs.prim_names.arena_heap.declared.value.StrNo.{StrNo}
use Rattle.vm_states.specs.prim_names.arena_objects.Iterables.{or_nothing}
use Rattle.vm_states.specs.vm_fetching.Instructions as fetched
use Rattle.vm_states.specs.vm_fetching.declared.instruction.Step.TheVariants as steps
use Rattle.vm_states.specs.vm_fetching.declared.operations.AttributeOp.TheVariants as attribute_ops
use Rattle.vm_states.specs.vm_fetching.declared.operations.AttributeOp.{AttributeOp}
use Rattle.state_values.proofs.attributes.attribute_on.Goals as goal

pub load_attr-requires-clause-name : goal.load_attr-requires-clause-name
load_attr-requires-clause-name g c =
    let h = step_runs (g.C.Constants.text_of c.args.consts.now) (g.C.Constants.items_of c.args.consts.now) (steps.Attribute c.args.op c.args.name) (steps.Attribute attribute_ops.LoadAttr c.args.name) c.args.end (ap (λ (o : AttributeOp). steps.Attribute o c.args.name) c.in-LoadAttr.is) c.args.arena.now c.args.frames.now c.requires.runs in
    finding.text_told h c.args.name h.ready.text

pub load_attr-requires-clause-object : goal.load_attr-requires-clause-object
load_attr-requires-clause-object g c =
    let h = step_runs (g.C.Constants.text_of c.args.consts.now) (g.C.Constants.items_of c.args.consts.now) (steps.Attribute c.args.op c.args.name) (steps.Attribute attribute_ops.LoadAttr c.args.name) c.args.end (ap (λ (o : AttributeOp). steps.Attribute o c.args.name) c.in-LoadAttr.is) c.args.arena.now c.args.frames.now c.requires.runs in
    finding.one h c.tops_law.ensures.one h.ready.finds

pub load_attr-requires-clause-all_told : goal.load_attr-requires-clause-all_told
load_attr-requires-clause-all_told g c =
    let h = step_runs (g.C.Constants.text_of c.args.consts.now) (g.C.Constants.items_of c.args.consts.now) (steps.Attribute c.args.op c.args.name) (steps.Attribute attribute_ops.LoadAttr c.args.name) c.args.end (ap (λ (o : AttributeOp). steps.Attribute o c.args.name) c.in-LoadAttr.is) c.args.arena.now c.args.frames.now c.requires.runs in
    finding.all_told h

pub returns-in-LoadAttr : goal.returns-in-LoadAttr
returns-in-LoadAttr g c =
    record {
      acts = step_acts (g.C.Constants.text_of c.args.consts.now) (g.C.Constants.items_of c.args.consts.now) (steps.Attribute c.args.op c.args.name) (steps.Attribute attribute_ops.LoadAttr c.args.name) c.args.end (ap (λ (o : AttributeOp). steps.Attribute o c.args.name) c.in-LoadAttr.is) c.args.arena.now c.load_attr.new.arena c.args.frames.now c.load_attr.new.frames c.load_attr.result (ending.puts c.acting_law.ensures.acts (record { instruction = fetched.attribute attribute_ops.LoadAttr c.args.name; end = c.args.end }) (λ p s row r. r.begins tt) 0 (Names ops.LoadAttr (or_nothing (g.C.Constants.text_of c.args.consts.now c.args.name))) c.args.frames.now c.load_attr.new.frames
          c.load_attr.ensures.leaves (λ p d tells. ap (λ (t : StrNo → Option (List ℕ)). Names ops.LoadAttr (or_nothing (t c.args.name))) tells.texts_are) c.load_attr.ensures.steps 1 c.load_attr.ensures.moved);
    }

pub load_method-requires-clause-room : goal.load_method-requires-clause-room
load_method-requires-clause-room g c =
    let h = step_runs (g.C.Constants.text_of c.args.consts.now) (g.C.Constants.items_of c.args.consts.now) (steps.Attribute c.args.op c.args.name) (steps.Attribute attribute_ops.LoadMethod c.args.name) c.args.end (ap (λ (o : AttributeOp). steps.Attribute o c.args.name) c.in-LoadMethod.is) c.args.arena.now c.args.frames.now c.requires.runs in
    finding.has_room h

pub load_method-requires-clause-name : goal.load_method-requires-clause-name
load_method-requires-clause-name g c =
    let h = step_runs (g.C.Constants.text_of c.args.consts.now) (g.C.Constants.items_of c.args.consts.now) (steps.Attribute c.args.op c.args.name) (steps.Attribute attribute_ops.LoadMethod c.args.name) c.args.end (ap (λ (o : AttributeOp). steps.Attribute o c.args.name) c.in-LoadMethod.is) c.args.arena.now c.args.frames.now c.requires.runs in
    finding.text_told h c.args.name h.ready.text

pub load_method-requires-clause-object : goal.load_method-requires-clause-object
load_method-requires-clause-object g c =
    let h = step_runs (g.C.Constants.text_of c.args.consts.now) (g.C.Constants.items_of c.args.consts.now) (steps.Attribute c.args.op c.args.name) (steps.Attribute attribute_ops.LoadMethod c.args.name) c.args.end (ap (λ (o : AttributeOp). steps.Attribute o c.args.name) c.in-LoadMethod.is) c.args.arena.now c.args.frames.now c.requires.runs in
    finding.one h c.tops_law.ensures.one h.ready.finds.0

pub load_method-requires-clause-all_told : goal.load_method-requires-clause-all_told
load_method-requires-clause-all_told g c =
    let h = step_runs (g.C.Constants.text_of c.args.consts.now) (g.C.Constants.items_of c.args.consts.now) (steps.Attribute c.args.op c.args.name) (steps.Attribute attribute_ops.LoadMethod c.args.name) c.args.end (ap (λ (o : AttributeOp). steps.Attribute o c.args.name) c.in-LoadMethod.is) c.args.arena.now c.args.frames.now c.requires.runs in
    finding.all_told h

pub returns-in-LoadMethod : goal.returns-in-LoadMethod
returns-in-LoadMethod g c =
    record {
      acts = step_acts (g.C.Constants.text_of c.args.consts.now) (g.C.Constants.items_of c.args.consts.now) (steps.Attribute c.args.op c.args.name) (steps.Attribute attribute_ops.LoadMethod c.args.name) c.args.end (ap (λ (o : AttributeOp). steps.Attribute o c.args.name) c.in-LoadMethod.is) c.args.arena.now c.args.arena.now c.args.frames.now c.load_method.new.frames c.load_method.result (ending.looks c.acting_law.ensures.acts (record { instruction = fetched.attribute attribute_ops.LoadMethod c.args.name; end = c.args.end }) (λ p s row r. r.begins tt) 0 (Names ops.LoadMethod (or_nothing (g.C.Constants.text_of c.args.consts.now c.args.name))) c.args.frames.now c.load_method.new.frames
          c.load_method.ensures.leaves (λ p d tells. ap (λ (t : StrNo → Option (List ℕ)). Names ops.LoadMethod (or_nothing (t c.args.name))) tells.texts_are) c.load_method.ensures.steps c.load_method.ensures.moved);
    }

pub store_attr-requires-clause-name : goal.store_attr-requires-clause-name
store_attr-requires-clause-name g c =
    let h = step_runs (g.C.Constants.text_of c.args.consts.now) (g.C.Constants.items_of c.args.consts.now) (steps.Attribute c.args.op c.args.name) (steps.Attribute attribute_ops.StoreAttr c.args.name) c.args.end (ap (λ (o : AttributeOp). steps.Attribute o c.args.name) c.in-StoreAttr.is) c.args.arena.now c.args.frames.now c.requires.runs in
    finding.text_told h c.args.name h.ready.text

pub store_attr-requires-clause-object : goal.store_attr-requires-clause-object
store_attr-requires-clause-object g c =
    let h = step_runs (g.C.Constants.text_of c.args.consts.now) (g.C.Constants.items_of c.args.consts.now) (steps.Attribute c.args.op c.args.name) (steps.Attribute attribute_ops.StoreAttr c.args.name) c.args.end (ap (λ (o : AttributeOp). steps.Attribute o c.args.name) c.in-StoreAttr.is) c.args.arena.now c.args.frames.now c.requires.runs in
    (finding.two h c.tops_law.ensures.two h.ready.finds).0

pub store_attr-requires-clause-value : goal.store_attr-requires-clause-value
store_attr-requires-clause-value g c =
    let h = step_runs (g.C.Constants.text_of c.args.consts.now) (g.C.Constants.items_of c.args.consts.now) (steps.Attribute c.args.op c.args.name) (steps.Attribute attribute_ops.StoreAttr c.args.name) c.args.end (ap (λ (o : AttributeOp). steps.Attribute o c.args.name) c.in-StoreAttr.is) c.args.arena.now c.args.frames.now c.requires.runs in
    (finding.two h c.tops_law.ensures.two h.ready.finds).1

pub store_attr-requires-clause-all_told : goal.store_attr-requires-clause-all_told
store_attr-requires-clause-all_told g c =
    let h = step_runs (g.C.Constants.text_of c.args.consts.now) (g.C.Constants.items_of c.args.consts.now) (steps.Attribute c.args.op c.args.name) (steps.Attribute attribute_ops.StoreAttr c.args.name) c.args.end (ap (λ (o : AttributeOp). steps.Attribute o c.args.name) c.in-StoreAttr.is) c.args.arena.now c.args.frames.now c.requires.runs in
    finding.all_told h

pub returns-in-StoreAttr : goal.returns-in-StoreAttr
returns-in-StoreAttr g c =
    record {
      acts = step_acts (g.C.Constants.text_of c.args.consts.now) (g.C.Constants.items_of c.args.consts.now) (steps.Attribute c.args.op c.args.name) (steps.Attribute attribute_ops.StoreAttr c.args.name) c.args.end (ap (λ (o : AttributeOp). steps.Attribute o c.args.name) c.in-StoreAttr.is) c.args.arena.now c.store_attr.new.arena c.args.frames.now c.store_attr.new.frames c.store_attr.result (ending.takes c.acting_law.ensures.acts (record { instruction = fetched.attribute attribute_ops.StoreAttr c.args.name; end = c.args.end }) (λ p s row r. r.begins tt) 0 (Names ops.StoreAttr (or_nothing (g.C.Constants.text_of c.args.consts.now c.args.name))) c.args.frames.now c.store_attr.new.frames
          c.store_attr.ensures.leaves (λ p d tells. ap (λ (t : StrNo → Option (List ℕ)). Names ops.StoreAttr (or_nothing (t c.args.name))) tells.texts_are) c.store_attr.ensures.steps 2 c.store_attr.ensures.moved);
    }

pub import_from-requires-clause-room : goal.import_from-requires-clause-room
import_from-requires-clause-room g c =
    let h = step_runs (g.C.Constants.text_of c.args.consts.now) (g.C.Constants.items_of c.args.consts.now) (steps.Attribute c.args.op c.args.name) (steps.Attribute attribute_ops.ImportFrom c.args.name) c.args.end (ap (λ (o : AttributeOp). steps.Attribute o c.args.name) c.in-ImportFrom.is) c.args.arena.now c.args.frames.now c.requires.runs in
    finding.has_room h

pub import_from-requires-clause-name : goal.import_from-requires-clause-name
import_from-requires-clause-name g c =
    let h = step_runs (g.C.Constants.text_of c.args.consts.now) (g.C.Constants.items_of c.args.consts.now) (steps.Attribute c.args.op c.args.name) (steps.Attribute attribute_ops.ImportFrom c.args.name) c.args.end (ap (λ (o : AttributeOp). steps.Attribute o c.args.name) c.in-ImportFrom.is) c.args.arena.now c.args.frames.now c.requires.runs in
    finding.text_told h c.args.name h.ready.text

pub import_from-requires-clause-object : goal.import_from-requires-clause-object
import_from-requires-clause-object g c =
    let h = step_runs (g.C.Constants.text_of c.args.consts.now) (g.C.Constants.items_of c.args.consts.now) (steps.Attribute c.args.op c.args.name) (steps.Attribute attribute_ops.ImportFrom c.args.name) c.args.end (ap (λ (o : AttributeOp). steps.Attribute o c.args.name) c.in-ImportFrom.is) c.args.arena.now c.args.frames.now c.requires.runs in
    finding.one h c.tops_law.ensures.one h.ready.finds.0

pub import_from-requires-clause-all_told : goal.import_from-requires-clause-all_told
import_from-requires-clause-all_told g c =
    let h = step_runs (g.C.Constants.text_of c.args.consts.now) (g.C.Constants.items_of c.args.consts.now) (steps.Attribute c.args.op c.args.name) (steps.Attribute attribute_ops.ImportFrom c.args.name) c.args.end (ap (λ (o : AttributeOp). steps.Attribute o c.args.name) c.in-ImportFrom.is) c.args.arena.now c.args.frames.now c.requires.runs in
    finding.all_told h

pub returns-in-ImportFrom : goal.returns-in-ImportFrom
returns-in-ImportFrom g c =
    record {
      acts = step_acts (g.C.Constants.text_of c.args.consts.now) (g.C.Constants.items_of c.args.consts.now) (steps.Attribute c.args.op c.args.name) (steps.Attribute attribute_ops.ImportFrom c.args.name) c.args.end (ap (λ (o : AttributeOp). steps.Attribute o c.args.name) c.in-ImportFrom.is) c.args.arena.now c.import_from.new.arena c.args.frames.now c.import_from.new.frames c.import_from.result (ending.puts c.acting_law.ensures.acts (record { instruction = fetched.attribute attribute_ops.ImportFrom c.args.name; end = c.args.end }) (λ p s row r. r.begins tt) 0 (Names ops.ImportFrom (or_nothing (g.C.Constants.text_of c.args.consts.now c.args.name))) c.args.frames.now c.import_from.new.frames
          c.import_from.ensures.leaves (λ p d tells. ap (λ (t : StrNo → Option (List ℕ)). Names ops.ImportFrom (or_nothing (t c.args.name))) tells.texts_are) c.import_from.ensures.steps 0 c.import_from.ensures.moved);
    }
